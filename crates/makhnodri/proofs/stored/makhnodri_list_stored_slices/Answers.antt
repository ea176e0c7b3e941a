use Rattle.c_numbers.specs.Stored.{stored_list_small}
use Rattle.makhnodri.proofs.stored.makhnodri_list_stored_slices.Goals as goal

pub count_number-requires : goal.count_number-requires
count_number-requires c = stored_list_small c.list_stored.ensures.list

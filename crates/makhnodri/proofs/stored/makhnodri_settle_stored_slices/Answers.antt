use Rattle.c_numbers.specs.Stored.{stored_words_small}
use Rattle.makhnodri.proofs.stored.makhnodri_settle_stored_slices.Goals as goal

pub count_number-requires : goal.count_number-requires
count_number-requires c = stored_words_small c.settle_stored.ensures

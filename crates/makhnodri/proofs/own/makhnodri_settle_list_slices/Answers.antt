use Rattle.c_numbers.specs.OwnSmall.{own_small}
use Rattle.makhnodri.proofs.own.makhnodri_settle_list_slices.Goals as goal

pub count_number-requires : goal.count_number-requires
count_number-requires c = own_small c.settle_list.ensures

use Rattle.c_numbers.specs.OwnSmall.{own_met_small}
use Rattle.makhnodri.proofs.own.makhnodri_contact_list_slices.Goals as goal

pub count_number-requires : goal.count_number-requires
count_number-requires c = own_met_small c.contact_list.ensures

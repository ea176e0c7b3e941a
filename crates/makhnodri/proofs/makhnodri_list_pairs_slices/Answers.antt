use Rattle.c_numbers.specs.Small.{listing_small}
use Rattle.makhnodri.proofs.makhnodri_list_pairs_slices.Goals as goal

pub count_number-requires : goal.count_number-requires
count_number-requires c = listing_small c.list_pairs.ensures.list

use Rattle.c_numbers.specs.Claims.{claims_small}
use Rattle.makhnodri.proofs.makhnodri_check_claims_slices.Goals as goal

pub count_number-requires : goal.count_number-requires
count_number-requires c = claims_small c.check_claims.ensures

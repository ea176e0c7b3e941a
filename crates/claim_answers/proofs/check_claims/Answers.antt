use Rattle.scene_seams.specs.Sewing.{blank_table}
use Rattle.claim_answers.proofs.check_claims.Goals as goal

pub check_into-requires-2 : goal.check_into-requires-2
check_into-requires-2 c = blank_table _

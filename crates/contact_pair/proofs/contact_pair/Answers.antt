use Rattle.scene_seams.specs.Sewing.{blank_table}
use Rattle.contact_pair.proofs.contact_pair.Goals as goal

pub contact_into-requires-2 : goal.contact_into-requires-2
contact_into-requires-2 c = blank_table _

use Rattle.scene_seams.specs.Sewing.{blank_table}
use Rattle.contact_scene.proofs.contact_scene.Goals as goal

pub contact_into-requires-2 : goal.contact_into-requires-2
contact_into-requires-2 c = blank_table _

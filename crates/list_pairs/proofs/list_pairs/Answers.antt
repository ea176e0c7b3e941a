use Rattle.scene_seams.specs.Sewing.{blank_table}
use Rattle.list_pairs.proofs.list_pairs.Goals as goal

pub list_into-requires-2 : goal.list_into-requires-2
list_into-requires-2 c = blank_table _

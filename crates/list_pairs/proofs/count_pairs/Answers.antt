use Rattle.scene_seams.specs.Sewing.{blank_table}
use Rattle.list_pairs.proofs.count_pairs.Goals as goal

pub count_into-requires-2 : goal.count_into-requires-2
count_into-requires-2 c = blank_table _

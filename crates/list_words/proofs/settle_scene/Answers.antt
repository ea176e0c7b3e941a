use Rattle.scene_seams.specs.Sewing.{blank_table}
use Rattle.list_words.proofs.settle_scene.Goals as goal

pub settle_into-requires-2 : goal.settle_into-requires-2
settle_into-requires-2 c = blank_table _

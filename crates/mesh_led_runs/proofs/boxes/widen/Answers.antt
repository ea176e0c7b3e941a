-- `widen`: the vertex's box is copied, and joined from there.
use Rattle.mesh_led_runs.specs.PartBoxes.{widened}
use Rattle.mesh_led_runs.proofs.boxes.widen.Goals as goal

pub returns : goal.returns
returns c = widened c.requires.1 c.copy_box.ensures c.store_joint_box.ensures

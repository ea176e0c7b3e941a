-- `own_boxes`: row by row.
use Rattle.mesh_led_runs.specs.PartBoxes.{own_box}
use Rattle.mesh_led_runs.specs.RowBoxes.{Standing}
use Rattle.mesh_led_runs.proofs.boxes.own_boxes.Given as goal

abbrev pub invariant-loop-r : goal.invariant-loop-r
invariant-loop-r l = Standing (own_box l.edges l.boxes l.kind) l.first l.initial.own l.own l.r

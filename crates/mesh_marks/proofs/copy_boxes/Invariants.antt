-- `copy_boxes`: number by number.
use Prim.Native.Nat.{◌*◌}
use Rattle.mesh_marks.specs.Copying.{Copying}
use Rattle.mesh_marks.proofs.copy_boxes.Given as goal

abbrev pub invariant-loop-n : goal.invariant-loop-n
invariant-loop-n l = Copying l.boxes l.initial.own l.own (6 * l.first) l.n

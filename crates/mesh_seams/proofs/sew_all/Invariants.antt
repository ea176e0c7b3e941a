-- `sew_all`: the seams are taken into the table one by one.
use Rattle.scene_seams.specs.Sewing.{Sewing}
use Rattle.mesh_seams.proofs.sew_all.Given as goal

abbrev pub invariant-loop-k : goal.invariant-loop-k
invariant-loop-k l = Sewing l.positions l.seams l.initial.stands l.broken l.stands l.least l.k

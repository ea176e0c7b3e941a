-- `spread_boxes`: place by place.
use Rattle.mesh_marks.specs.Marked.{Spreading}
use Rattle.mesh_marks.proofs.spread_boxes.Given as goal

abbrev pub invariant-loop-q : goal.invariant-loop-q
invariant-loop-q l = Spreading l.boxes l.base l.places l.initial.six l.six l.q

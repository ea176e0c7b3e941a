-- `mark_met`: place by place, by a copy of the row's box.
use Rattle.meaning.specs.StoredBoxes.{box_at}
use Rattle.mesh_marks.specs.Marked.{Marking}
use Rattle.mesh_marks.proofs.mark_met.Given as goal

abbrev pub invariant-loop-q : goal.invariant-loop-q
invariant-loop-q l = Marking (box_at l.boxes l.row) l.six l.initial.marks l.marks l.q

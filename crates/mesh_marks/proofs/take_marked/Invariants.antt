-- `take_marked`: of the places passed those that are taken are put down.
use Rattle.mesh_walk.specs.PutDown.{PutDown}
use Rattle.mesh_marks.specs.Taking.{marked_places}
use Rattle.mesh_marks.proofs.take_marked.Given as goal

abbrev pub invariant-loop-c : goal.invariant-loop-c
invariant-loop-c l = PutDown l.initial.seconds 0 (marked_places l.places l.marks l.from l.c) l.seconds l.n

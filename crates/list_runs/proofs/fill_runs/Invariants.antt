-- The runs passed stand behind the boxes.
use Rattle.list_runs.specs.Filled.{RunsFilling}
use Rattle.list_runs.proofs.fill_runs.Given as goal

abbrev pub invariant-loop-r : goal.invariant-loop-r
invariant-loop-r l = RunsFilling l.initial.boxes l.first l.parts l.to l.r l.boxes

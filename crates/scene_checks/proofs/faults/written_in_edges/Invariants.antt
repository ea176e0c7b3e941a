-- Every edge is tried in turn.
use Rattle.std.proofs.Common.{◌≡◌}
use Rattle.meaning.specs.Scene.{some_below}
use Rattle.scene_checks.specs.AsWritten.{written_twice_in_edge}
use Rattle.scene_checks.proofs.faults.written_in_edges.Given as goal

abbrev pub invariant-loop-j : goal.invariant-loop-j
invariant-loop-j l = l.found ≡ some_below l.j (written_twice_in_edge l.edges)

-- Every edge is tried in turn.
use Rattle.std.proofs.Common.{◌≡◌}
use Rattle.meaning.specs.Scene.{some_below, twice_in_edge}
use Rattle.scene_seams.specs.Alone.{edges_sewn}
use Rattle.scene_checks.proofs.faults.repeated_in_edges.Given as goal

abbrev pub invariant-loop-j : goal.invariant-loop-j
invariant-loop-j l = l.found ≡ some_below l.j (twice_in_edge (edges_sewn l.edges l.stands))

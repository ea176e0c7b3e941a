-- Every number of the row is tried in turn.
use Rattle.std.proofs.Common.{◌≡◌}
use Rattle.meaning.specs.Scene.{some_below}
use Rattle.scene_checks.specs.InRows.{written_again}
use Rattle.scene_checks.proofs.faults.written_in_row.Given as goal

abbrev pub invariant-loop-k : goal.invariant-loop-k
invariant-loop-k l = l.found ≡ some_below l.k (written_again l.triangles l.from)

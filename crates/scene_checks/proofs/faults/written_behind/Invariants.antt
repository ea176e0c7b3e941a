-- Every triangle from the first on is tried in turn.
use Rattle.std.proofs.Common.{◌≡◌, ◌+◌, ◌-◌}
use Rattle.meaning.specs.Scene.{some_below}
use Rattle.scene_checks.specs.AsWritten.{written_twice_in_triangle}
use Rattle.scene_checks.proofs.faults.written_behind.Given as goal

abbrev pub invariant-loop-j : goal.invariant-loop-j
invariant-loop-j l = l.found ≡ some_below (l.j - l.first) (λ i. written_twice_in_triangle l.triangles (l.first + i))

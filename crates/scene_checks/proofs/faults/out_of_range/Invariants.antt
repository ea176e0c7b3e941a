-- Every coordinate is tried in turn.
use Rattle.std.proofs.Common.{◌≡◌, pos, get_or}
use Rattle.meaning.specs.Scene.{outside, some_below}
use Rattle.scene_checks.proofs.faults.out_of_range.Given as goal

abbrev pub invariant-loop-coordinate : goal.invariant-loop-coordinate
invariant-loop-coordinate l = l.found ≡ some_below l.coordinate-index (λ k. outside (get_or l.positions k (pos 0)))

-- Every number of the list is tried in turn.
use Rattle.std.proofs.Common.{◌≡◌, get_or, leb}
use Rattle.meaning.specs.Scene.{some_below}
use Rattle.scene_checks.proofs.faults.unknown_in.Given as goal

abbrev pub invariant-loop-number : goal.invariant-loop-number
invariant-loop-number l = l.found ≡ some_below l.number-index (λ k. leb l.count (get_or l.list k 0))

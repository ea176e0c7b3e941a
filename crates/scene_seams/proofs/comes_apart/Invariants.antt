-- Every one of six coordinates is tried in turn.
use Rattle.std.proofs.Common.{◌≡◌, ◌+◌, ◌*◌, pos, get_or}
use Rattle.meaning.specs.Scene.{some_below, differ}
use Rattle.scene_seams.proofs.comes_apart.Given as goal

abbrev pub invariant-loop-k : goal.invariant-loop-k
invariant-loop-k l = l.found ≡ some_below l.k (λ i. differ (get_or l.positions (6 * l.a + i) (pos 0)) (get_or l.positions (6 * l.b + i) (pos 0)))

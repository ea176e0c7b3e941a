-- `tearing::apart_from`: every one of six coordinates is tried in turn.
use Prim.Native.Nat.{◌+◌, ◌*◌}
use Rattle.scene_seams.specs.Scanning.{Scanned}
use lib.IntN.{pos}
use lib.ListN.{get_or}
use Rattle.meaning.specs.Scene.{differ}
use Rattle.stored_move.proofs.tearing.apart_from.Given as goal

abbrev pub invariant-loop-k : goal.invariant-loop-k
invariant-loop-k l = Scanned 6 (λ i. differ (get_or l.positions (6 * l.u + i) (pos 0)) (get_or l.coordinates i (pos 0))) l.found l.k

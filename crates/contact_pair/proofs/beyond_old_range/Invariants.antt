-- `beyond_old_range`: every coordinate is tried in turn.
use Rattle.meaning.specs.Limits.{contact_limit}
use lib.IntN.{pos}
use lib.ListN.{length, get_or}
use Rattle.meaning.specs.Scene.{beyond}
use Rattle.scene_seams.specs.Scanning.{Scanned}
use Rattle.contact_pair.proofs.beyond_old_range.Given as goal

abbrev pub invariant-loop-coordinate : goal.invariant-loop-coordinate
invariant-loop-coordinate l = Scanned (length l.positions) (λ k. beyond contact_limit (get_or l.positions k (pos 0))) l.found l.coordinate-index

-- `faults::unknown_in`: every number of the list is tried in turn.
use lib.Dec.{leb}
use lib.ListN.{length, get_or}
use Rattle.scene_seams.specs.Scanning.{Scanned}
use Rattle.mesh_checks.proofs.faults.unknown_in.Given as goal

abbrev pub invariant-loop-x : goal.invariant-loop-x
invariant-loop-x l = Scanned (length l.list) (λ k. leb l.count (get_or l.list k 0)) l.found l.x-index

-- `some_astray`: every number is tried in turn.
use Rattle.scene_seams.specs.Scanning.{Scanned}
use Rattle.mesh_orders.specs.Orders.{astray_at}
use Rattle.mesh_orders.proofs.some_astray.Given as goal

abbrev pub invariant-loop-k : goal.invariant-loop-k
invariant-loop-k l = Scanned l.count (astray_at l.there l.back l.count) l.found l.k

-- `put_places`: the numbers passed are put.
use Rattle.mesh_orders.specs.Orders.{Placing}
use Rattle.mesh_orders.proofs.put_places.Given as goal

abbrev pub invariant-loop-k : goal.invariant-loop-k
invariant-loop-k l = Placing l.order l.initial.inverse l.inverse l.k

-- `put_place`: the place is stored, or there is no part for it.
use native.Mathlib.Omega.{arith}
use Rattle.mesh_orders.specs.Orders.{put_known, put_passed}
use Rattle.mesh_orders.proofs.put_place.Goals as goal

pub returns-then-part-order : goal.returns-then-part-order
returns-then-part-order c =
    let a = c.args in
    put_known a.order.now a.inverse.now a.k _ c.wide-part.ensures c.if-part-order.true

pub returns-else-part-order : goal.returns-else-part-order
returns-else-part-order c =
    let a = c.args in
    put_passed a.order.now a.inverse.now a.k _ c.wide-part.ensures c.if-part-order.false

pub overflow_cast-inverse : goal.overflow_cast-inverse
overflow_cast-inverse c = omega arith

-- `wrong_hints`: by the lengths, then by the inverse of the order.
use Rattle.mesh_orders.specs.Told.{parts_only}
use Rattle.mesh_edges.specs.Checking.{sides_missing, order_short, order_told}
use Rattle.mesh_edges.proofs.wrong_hints.Goals as goal

pub returns-then-sides-triangles : goal.returns-then-sides-triangles
returns-then-sides-triangles c =
    let a = c.args in
    sides_missing (parts_only a.edges.now a.triangles.now) a.sides.now a.order.now c.if-sides-triangles.true

pub returns-then-order-edges : goal.returns-then-order-edges
returns-then-order-edges c =
    let a = c.args in
    order_short (parts_only a.edges.now a.triangles.now) a.sides.now a.order.now c.if-sides-triangles.false c.if-order-edges.true

pub returns : goal.returns
returns c =
    let a = c.args in
    order_told (parts_only a.edges.now a.triangles.now) a.sides.now a.order.now c.if-sides-triangles.false c.if-order-edges.false c.is_order.ensures

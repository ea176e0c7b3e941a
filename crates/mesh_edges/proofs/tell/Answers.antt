-- `tell`: the first side, then the first number of the order.
use native.Mathlib.Omega.{arith}
use Rattle.mesh_orders.specs.Told.{parts_only}
use Rattle.mesh_edges.specs.Checking.{right_sides, right_order, edge_order, tells_bare, tells_twice, tells_whole}
use Rattle.mesh_edges.proofs.tell.Goals as goal

pub first_bare-side-requires : goal.first_bare-side-requires
first_bare-side-requires c =
    let a = c.args in
    (c.requires.0, right_sides (parts_only a.edges.now a.triangles.now) a.sides.now a.order.now c.requires.1)

pub returns-then-side-triangles : goal.returns-then-side-triangles
returns-then-side-triangles c =
    let a = c.args in
    tells_bare a.edges.now a.triangles.now a.sides.now a.order.now c.first_bare-side.ensures c.if-side-triangles.true

pub first_fall-fall-requires : goal.first_fall-fall-requires
first_fall-fall-requires c =
    let a = c.args in
    edge_order a.edges.now a.triangles.now a.order.now (right_order (parts_only a.edges.now a.triangles.now) a.sides.now a.order.now c.requires.1)

pub returns-then-fall-last : goal.returns-then-fall-last
returns-then-fall-last c =
    let a = c.args in
    let ordered = edge_order a.edges.now a.triangles.now a.order.now (right_order (parts_only a.edges.now a.triangles.now) a.sides.now a.order.now c.requires.1) in
    tells_twice a.edges.now a.triangles.now a.sides.now a.order.now c.first_bare-side.ensures (omega arith) ordered.whole c.first_fall-fall.ensures (rw c.saturating_sub-last.ensures at c.if-fall-last.true)

pub returns-else-fall-last : goal.returns-else-fall-last
returns-else-fall-last c =
    let a = c.args in
    let ordered = edge_order a.edges.now a.triangles.now a.order.now (right_order (parts_only a.edges.now a.triangles.now) a.sides.now a.order.now c.requires.1) in
    tells_whole a.edges.now a.triangles.now a.sides.now a.order.now c.first_bare-side.ensures (omega arith) ordered.whole c.first_fall-fall.ensures (rw c.saturating_sub-last.ensures at c.if-fall-last.false)

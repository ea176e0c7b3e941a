-- `bare`: by the number of the lent edge, then by its ends.
use native.Mathlib.Omega.{arith}
use mathlib.Core.Bool.{not}
use mathlib.Core.Path.{◌∙◌, ap}
use Rattle.mesh_orders.specs.Told.{parts_only}
use Rattle.mesh_edges.specs.Sides.{next_inside, is_bare, is_no_edge}
use Rattle.mesh_edges.proofs.bare.Goals as goal

pub offset_bounds-triangles-next : goal.offset_bounds-triangles-next
offset_bounds-triangles-next c =
    let start = c in
    omega (arith, c.next_corner-next.ensures, next_inside _ start.args.k start.requires.1 start.requires.0)

pub bounds-triangles-next : goal.bounds-triangles-next
bounds-triangles-next c =
    let start = c in
    omega (arith, c.next_corner-next.ensures, next_inside _ start.args.k start.requires.1 start.requires.0)

pub returns-then-edge-edges : goal.returns-then-edge-edges
returns-then-edge-edges c =
    let a = c.args in
    let next = c.next_corner-next.ensures in
    ap not c.joins_ends.ensures
    ∙ is_bare (parts_only a.edges.now a.triangles.now) a.sides.now a.k _ c.wide-edge.ensures _ _ c.if-edge-edges.true c.wide.ensures (rw next at c.wide-then-edge-edges.ensures)

pub returns-else-edge-edges : goal.returns-else-edge-edges
returns-else-edge-edges c =
    let a = c.args in
    is_no_edge (parts_only a.edges.now a.triangles.now) a.sides.now a.k _ c.wide-edge.ensures c.if-edge-edges.false

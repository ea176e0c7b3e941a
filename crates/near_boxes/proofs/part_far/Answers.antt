-- `part_far`: by the kind; every end and every corner is a vertex.
use borrow.Author.Rules.{rules}
use native.Mathlib.Omega.{arith}
use Rattle.scene_seams.specs.Alone.{tabled}
use Rattle.near_boxes.specs.Parts.{triangle_reached, edge_reached, three_far_is, two_far_is}
use Rattle.near_boxes.proofs.part_far.Goals as goal

pub corner-a-requires : goal.corner-a-requires
corner-a-requires c =
    let start = c in
    (triangle_reached start.requires.1 c.in-PointTriangle.is, omega arith)

pub corner-b-requires : goal.corner-b-requires
corner-b-requires c =
    let start = c in
    (triangle_reached start.requires.1 c.in-PointTriangle.is, omega arith)

pub corner-requires : goal.corner-requires
corner-requires c =
    let start = c in
    (triangle_reached start.requires.1 c.in-PointTriangle.is, omega arith)

pub three_far-requires : goal.three_far-requires
three_far-requires c =
    let start = c in
    let there = triangle_reached start.requires.1 c.in-PointTriangle.is in
    let known = start.requires.1.corners start.args.j in (
      start.requires.0,
      rw c.corner-a.ensures (known 0 there (omega arith)),
      rw c.corner-b.ensures (known 1 there (omega arith)),
      rw c.corner.ensures (known 2 there (omega arith)),
    )

pub edge_end-a-requires : goal.edge_end-a-requires
edge_end-a-requires c =
    let start = c in
    (edge_reached start.requires.1 c.in-EdgeEdge.is, omega arith)

pub edge_end-requires : goal.edge_end-requires
edge_end-requires c =
    let start = c in
    (edge_reached start.requires.1 c.in-EdgeEdge.is, omega arith)

pub two_far-requires : goal.two_far-requires
two_far-requires c =
    let start = c in
    let there = edge_reached start.requires.1 c.in-EdgeEdge.is in
    let known = start.requires.1.ends start.args.j in (
      start.requires.0,
      rw c.edge_end-a.ensures (known 0 there (omega arith)),
      rw c.edge_end.ensures (known 1 there (omega arith)),
    )

pub returns-in-PointTriangle : goal.returns-in-PointTriangle
returns-in-PointTriangle c =
    let x = c.args in
    let s = tabled x.positions.now x.edges.now x.triangles.now x.stands.now in
    rw c.in-PointTriangle.is (three_far_is x.own.now s x.j
    c.corner-a.ensures
    c.corner-b.ensures
    c.corner.ensures
    c.three_far.ensures)

pub returns-in-EdgeEdge : goal.returns-in-EdgeEdge
returns-in-EdgeEdge c =
    let x = c.args in
    let s = tabled x.positions.now x.edges.now x.triangles.now x.stands.now in
    rw c.in-EdgeEdge.is (two_far_is x.own.now s x.j
    c.edge_end-a.ensures
    c.edge_end.ensures
    c.two_far.ensures)

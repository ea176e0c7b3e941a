-- `is_far`: by the kind; every end and every corner is a vertex.
use native.Mathlib.Omega.{arith}
use Rattle.meaning.specs.Scene.{scene_of}
use Rattle.mesh_near.specs.Apart.{point_far_is, edges_far_is}
use Rattle.mesh_near.specs.Spanned.{point_there, edges_there}
use Rattle.mesh_near.proofs.is_far.Goals as goal

pub corner-a-requires : goal.corner-a-requires
corner-a-requires c =
    let start = c in
    ((point_there start.requires c.in-PointTriangle.is).1, omega arith)

pub corner-b-requires : goal.corner-b-requires
corner-b-requires c =
    let start = c in
    ((point_there start.requires c.in-PointTriangle.is).1, omega arith)

pub corner-requires : goal.corner-requires
corner-requires c =
    let start = c in
    ((point_there start.requires c.in-PointTriangle.is).1, omega arith)

pub point_far-requires : goal.point_far-requires
point_far-requires c =
    let start = c in
    let there = point_there start.requires c.in-PointTriangle.is in
    let known = start.requires.corners start.args.j in (
      there.0,
      rw c.corner-a.ensures (known 0 there.1 (omega arith)),
      rw c.corner-b.ensures (known 1 there.1 (omega arith)),
      rw c.corner.ensures (known 2 there.1 (omega arith)),
    )

pub edge_end-a-requires : goal.edge_end-a-requires
edge_end-a-requires c =
    let start = c in
    ((edges_there start.requires c.in-EdgeEdge.is).0, omega arith)

pub edge_end-b-requires : goal.edge_end-b-requires
edge_end-b-requires c =
    let start = c in
    ((edges_there start.requires c.in-EdgeEdge.is).0, omega arith)

pub edge_end-c-requires : goal.edge_end-c-requires
edge_end-c-requires c =
    let start = c in
    ((edges_there start.requires c.in-EdgeEdge.is).1, omega arith)

pub edge_end-requires : goal.edge_end-requires
edge_end-requires c =
    let start = c in
    ((edges_there start.requires c.in-EdgeEdge.is).1, omega arith)

pub edges_far-requires : goal.edges_far-requires
edges_far-requires c =
    let start = c in
    let there = edges_there start.requires c.in-EdgeEdge.is in
    let first = start.requires.ends start.args.i in
    let second = start.requires.ends start.args.j in (
      rw c.edge_end-a.ensures (first 0 there.0 (omega arith)),
      rw c.edge_end-b.ensures (first 1 there.0 (omega arith)),
      rw c.edge_end-c.ensures (second 0 there.1 (omega arith)),
      rw c.edge_end.ensures (second 1 there.1 (omega arith)),
    )

pub returns-in-PointTriangle : goal.returns-in-PointTriangle
returns-in-PointTriangle c w =
    let x = c.args in
    let s = scene_of x.positions.now x.edges.now x.triangles.now w in
    rw c.in-PointTriangle.is (point_far_is s x.i x.j
    c.corner-a.ensures
    c.corner-b.ensures
    c.corner.ensures
    c.point_far.ensures)

pub returns-in-EdgeEdge : goal.returns-in-EdgeEdge
returns-in-EdgeEdge c w =
    let x = c.args in
    let s = scene_of x.positions.now x.edges.now x.triangles.now w in
    rw c.in-EdgeEdge.is (edges_far_is s x.i x.j
    c.edge_end-a.ensures
    c.edge_end-b.ensures
    c.edge_end-c.ensures
    c.edge_end.ensures
    c.edges_far.ensures)

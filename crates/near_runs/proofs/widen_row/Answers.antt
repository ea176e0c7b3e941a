-- `widen_row`: by the kind; every end is a vertex.
use native.Mathlib.Omega.{arith}
use mathlib.Core.List.{[]}
use Rattle.scene_seams.specs.Table.{seams_of}
use Rattle.scene_seams.specs.Alone.{tabled}
use Rattle.near_runs.specs.Held.{vertex_there, edge_there, vertex_widened, edge_widened}
use Rattle.near_runs.proofs.widen_row.Goals as goal

pub widen-requires : goal.widen-requires
widen-requires c =
    let start = c in
    let a = start.args in
    let there = vertex_there (tabled a.positions.now a.edges.now a.triangles.now a.stands.now) start.requires.1 c.in-PointTriangle.is in
    (there, omega (arith, there, start.requires.0.few), start.requires.2, start.requires.3)

pub edge_end-a-requires : goal.edge_end-a-requires
edge_end-a-requires c =
    let start = c in
    let a = start.args in
    (edge_there (tabled a.positions.now a.edges.now a.triangles.now a.stands.now) start.requires.1 c.in-EdgeEdge.is, omega arith)

pub edge_end-b-requires : goal.edge_end-b-requires
edge_end-b-requires c =
    let start = c in
    let a = start.args in
    (edge_there (tabled a.positions.now a.edges.now a.triangles.now a.stands.now) start.requires.1 c.in-EdgeEdge.is, omega arith)

pub widen-requires-in-EdgeEdge : goal.widen-requires-in-EdgeEdge
widen-requires-in-EdgeEdge c =
    let start = c in
    let a = start.args in
    let there = edge_there (tabled a.positions.now a.edges.now a.triangles.now a.stands.now) start.requires.1 c.in-EdgeEdge.is in
    let known = start.requires.0.ends a.i 0 there (omega arith) in
    let is = c.edge_end-a.ensures in
    (rw is known, omega (arith, is, known, start.requires.0.few), start.requires.2, start.requires.3)

pub widen-requires-in-EdgeEdge-2 : goal.widen-requires-in-EdgeEdge-2
widen-requires-in-EdgeEdge-2 c =
    let start = c in
    let a = start.args in
    let there = edge_there (tabled a.positions.now a.edges.now a.triangles.now a.stands.now) start.requires.1 c.in-EdgeEdge.is in
    let known = start.requires.0.ends a.i 1 there (omega arith) in
    let is = c.edge_end-b.ensures in
    (rw is known, omega (arith, is, known, start.requires.0.few), start.requires.2, omega (arith, start.requires.3, (c.widen-in-EdgeEdge.ensures [] [] []).same))

pub returns-in-PointTriangle : goal.returns-in-PointTriangle
returns-in-PointTriangle c =
    let a = c.args in
    vertex_widened a.frame (tabled a.positions.now a.edges.now a.triangles.now a.stands.now) a.i c.in-PointTriangle.is (c.widen.ensures a.edges.now a.triangles.now (seams_of a.stands.now))

pub returns-in-EdgeEdge : goal.returns-in-EdgeEdge
returns-in-EdgeEdge c =
    let a = c.args in
    edge_widened a.frame (tabled a.positions.now a.edges.now a.triangles.now a.stands.now) a.i c.in-EdgeEdge.is c.edge_end-a.ensures c.edge_end-b.ensures
    (c.widen-in-EdgeEdge.ensures a.edges.now a.triangles.now (seams_of a.stands.now))
    (c.widen-in-EdgeEdge-2.ensures a.edges.now a.triangles.now (seams_of a.stands.now))

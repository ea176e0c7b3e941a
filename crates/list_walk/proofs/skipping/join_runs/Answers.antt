-- `skipping::join_runs`: the runs of edges, then those of triangles.
use borrow.Author.Rules.{rules}
use native.Mathlib.Omega.{arith}
use Rattle.scene_checks.specs.Facts.{accepted_sized}
use Rattle.list_walk.specs.Preparing.{prepared}
use Rattle.list_walk.proofs.skipping.join_runs.Goals as goal

pub fill_runs-requires : goal.fill_runs-requires
fill_runs-requires c =
    let start = c in
    let sized = accepted_sized start.requires.0 in
    let v = c.vertex_count-vertices.ensures in
    let e = c.edge_count-edge_parts.ensures in
    let t = c.triangle_count-triangle_parts.ensures in
    (omega arith, omega (arith, sized.few_edges), omega (arith, sized.few_vertices, sized.few_edges, sized.few_triangles, start.requires.2))

pub runs_of-requires : goal.runs_of-requires
runs_of-requires c = omega (arith, c.edge_count-edge_parts.ensures, (accepted_sized c.requires.0).few_edges)

pub fill_runs-requires-2 : goal.fill_runs-requires-2
fill_runs-requires-2 c =
    let start = c in
    let sized = accepted_sized start.requires.0 in
    let more = c.fill_runs.ensures.same in
    let v = c.vertex_count-vertices.ensures in
    let e = c.edge_count-edge_parts.ensures in
    let t = c.triangle_count-triangle_parts.ensures in
    let r = c.runs_of.ensures in
    (omega arith, omega (arith, sized.few_triangles), omega (arith, sized.few_vertices, sized.few_edges, sized.few_triangles, start.requires.2))

pub returns : goal.returns
returns c =
    let start = c in
    prepared start.requires.0 start.requires.1
    (rw (c.vertex_count-vertices.ensures, c.edge_count-edge_parts.ensures, c.triangle_count-triangle_parts.ensures) at c.fill_runs.ensures)
    (rw (c.vertex_count-vertices.ensures, c.edge_count-edge_parts.ensures, c.triangle_count-triangle_parts.ensures, c.runs_of.ensures, c.edge_count-edge_parts.ensures) at c.fill_runs-2.ensures)
    start.requires.2

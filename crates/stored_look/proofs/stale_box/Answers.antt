-- `stale_box`: the boxes of edges and triangles are looked at once those of all vertices are right.
use borrow.Author.Rules.{rules}
use native.Mathlib.Omega.{arith}
use mathlib.Core.Path.{sym, ◌∙◌}
use Rattle.meaning.specs.Scene.{scene_of}
use Rattle.scene_seams.specs.Alone.{only_positions}
use Rattle.stored_look.specs.Looked.{vertices_right, stale_by_vertex, stale_by_rest}
use Rattle.stored_look.proofs.stale_box.Goals as goal

pub returns-then-stale_vertices : goal.returns-then-stale_vertices
returns-then-stale_vertices c =
    let a = c.args in
    λ w. stale_by_vertex (scene_of a.positions.now a.edges.now a.triangles.now w) a.boxes.now (sym c.stale_vertices.ensures ∙ c.if-stale_vertices.true)

pub stale_edges-edge-requires : goal.stale_edges-edge-requires
stale_edges-edge-requires c = let start = c in record { edges_value = start.requires.0.0; edges_in_bounds = omega (arith, start.requires.0.2, start.requires.1); vertices_in = vertices_right (only_positions start.args.positions.now) start.args.boxes.now (sym c.stale_vertices.ensures ∙ c.if-stale_vertices.false) }

pub stale_triangles-triangle-requires : goal.stale_triangles-triangle-requires
stale_triangles-triangle-requires c = let start = c in record { triangles_value = start.requires.0.1; triangles_in_bounds = omega (arith, start.requires.0.2, start.requires.1); vertices_in = vertices_right (only_positions start.args.positions.now) start.args.boxes.now (sym c.stale_vertices.ensures ∙ c.if-stale_vertices.false) }

pub returns : goal.returns
returns c =
    let a = c.args in
    λ w. stale_by_rest (scene_of a.positions.now a.edges.now a.triangles.now w) a.boxes.now (sym c.stale_vertices.ensures ∙ c.if-stale_vertices.false) c.stale_edges-edge.ensures c.stale_triangles-triangle.ensures

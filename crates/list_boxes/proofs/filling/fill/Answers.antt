-- `filling::fill`: there is room for a box of each part, and ends and corners are vertices.
use borrow.Author.Rules.{rules}
use native.Mathlib.Omega.{arith}
use Rattle.list_boxes.specs.Filling.{kept_then}
use Rattle.list_boxes.proofs.filling.fill.Goals as goal

pub fill_vertices-requires : goal.fill_vertices-requires
fill_vertices-requires c =
    let start = c in
    omega (arith, start.requires.0.2, start.requires.1)

pub fill_edges-requires : goal.fill_edges-requires
fill_edges-requires c =
    let start = c in
    let filled = c.fill_vertices.ensures in record { edges_value = start.requires.0.0; edges_in_bounds = omega (arith, start.requires.0.2, start.requires.1, filled.1.same); vertices_in = filled.0 }

pub fill_triangles-requires : goal.fill_triangles-requires
fill_triangles-requires c =
    let start = c in
    let filled = c.fill_edges.ensures in
    let before = c.fill_vertices.ensures in record { triangles_value = start.requires.0.1; triangles_in_bounds = omega (arith, start.requires.0.2, start.requires.1, filled.2.same, before.1.same); vertices_in = (filled.0, filled.1) }

pub returns : goal.returns
returns c =
    λ w.
    let filled = c.fill_triangles.ensures w in
    record {
      boxed = filled.boxed;
      kept =
          kept_then (kept_then c.fill_vertices.ensures.1 c.fill_edges.ensures.2 (omega arith)) filled.kept
          (omega arith);
    }

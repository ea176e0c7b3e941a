-- `row_places`: a row of a number below the vertices' count is a vertex's, and any other an edge's.
use borrow.Author.Rules.{rules}
use native.Mathlib.Omega.{arith}
use Rattle.scene_seams.specs.Alone.{tabled}
use Rattle.list_candidates.specs.Rows.{first_count}
use Rattle.mesh_rows.specs.Rows.{vertex_row_of, edge_row_of, seconds_as}
use Rattle.mesh_ordered.specs.Either.{vertex_either, edge_either, triangle_room, edge_room}
use Rattle.mesh_ordered.proofs.row_places.Goals as goal

pub place_either-requires : goal.place_either-requires
unfolding first_count
place_either-requires c =
    let counted = c.vertex_count-vertices.ensures in
    let sides = c.edge_count.ensures in record { either_tree = (edge_either c.requires.forest.0 _ _ sides counted, omega (arith, c.requires.forest.1, counted, c.if-vertices-row.true)); parts_in_bounds = edge_room c.requires.orders_lent _ sides }

pub place_either-requires-else-vertices-row : goal.place_either-requires-else-vertices-row
unfolding first_count
place_either-requires-else-vertices-row c = let faces = c.triangle_count.ensures in record { either_tree = (vertex_either c.requires.forest.0 _ faces, omega (arith, c.vertex_count-vertices.ensures, c.if-vertices-row.false)); parts_in_bounds = triangle_room c.requires.orders_lent _ faces }

pub returns-then-vertices-row : goal.returns-then-vertices-row
returns-then-vertices-row c =
    let a = c.args in
    seconds_as (edge_row_of a.which (tabled a.positions.now a.edges.now a.triangles.now a.stands.now) _ a.row (omega (arith, c.if-vertices-row.true, c.vertex_count-vertices.ensures)))
    c.place_either.ensures

pub returns-else-vertices-row : goal.returns-else-vertices-row
returns-else-vertices-row c =
    let a = c.args in
    seconds_as (vertex_row_of a.which (tabled a.positions.now a.edges.now a.triangles.now a.stands.now) a.row (omega (arith, c.if-vertices-row.false, c.vertex_count-vertices.ensures)))
    c.place_either-else-vertices-row.ensures

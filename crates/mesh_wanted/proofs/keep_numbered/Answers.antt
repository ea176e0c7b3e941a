-- `keep_numbered`: the row of a number is that of a vertex, or of an edge.
use native.Mathlib.Omega.{arith}
use Prim.Native.Nat.{◌-◌}
use Rattle.meaning.specs.declared.Kind.TheVariants.{PointTriangle, EdgeEdge}
use Rattle.scene_seams.specs.Alone.{tabled}
use Rattle.mesh_rows.specs.Rows.{vertex_row_of, edge_row_of}
use Rattle.mesh_keep.specs.Keeping.{kept_as}
use Rattle.mesh_wanted.specs.Stretch.{forest_sized, numbered_of, numbered_pairs, numbered_short}
use Rattle.mesh_wanted.proofs.keep_numbered.Goals as goal

pub keep_row-requires : goal.keep_row-requires
keep_row-requires c =
    let a = c.args in
    let s = tabled a.positions.now a.edges.now a.triangles.now a.stands.now in
    let few = forest_sized c.requires.forest.0 in
    let low = rw c.vertex_count-vertices.ensures at c.if-row-vertices.true in
    let is = vertex_row_of a.which s a.row low in
    let put = c.row_places-parts.ensures in record { sound = (c.requires.sound.0, numbered_of a.which s few a.row c.requires.forest.1 PointTriangle a.row is put (omega (arith, low, few.few_vertices))); most_in_bounds = (c.requires.sound.1, c.requires.sound.2, omega (arith, c.requires.sound.3, put.count, numbered_short a.which s few PointTriangle a.row a.row is)) }

pub keep_row-requires-else-row-vertices : goal.keep_row-requires-else-row-vertices
keep_row-requires-else-row-vertices c =
    let a = c.args in
    let s = tabled a.positions.now a.edges.now a.triangles.now a.stands.now in
    let few = forest_sized c.requires.forest.0 in
    let is = edge_row_of a.which s (a.row - c.vertex_count-vertices.result) a.row (omega (arith, c.vertex_count-vertices.ensures, c.if-row-vertices.false)) in
    let put = c.row_places-parts.ensures in record { sound = (c.requires.sound.0, numbered_of a.which s few a.row c.requires.forest.1 EdgeEdge (a.row - c.vertex_count-vertices.result) is put (omega (arith, c.vertex_count-vertices.ensures, c.if-row-vertices.false, c.requires.forest.1, few.few_edges))); most_in_bounds = (c.requires.sound.1, c.requires.sound.2, omega (arith, c.requires.sound.3, put.count, numbered_short a.which s few EdgeEdge (a.row - c.vertex_count-vertices.result) a.row is)) }

pub returns-then-row-vertices : goal.returns-then-row-vertices
returns-then-row-vertices c =
    let a = c.args in
    let s = tabled a.positions.now a.edges.now a.triangles.now a.stands.now in
    let low = rw c.vertex_count-vertices.ensures at c.if-row-vertices.true in
    kept_as (numbered_pairs a.which s (forest_sized c.requires.forest.0) a.row c.requires.forest.1 PointTriangle a.row (vertex_row_of a.which s a.row low) c.row_places-parts.ensures) c.keep_row.ensures

pub returns-else-row-vertices : goal.returns-else-row-vertices
returns-else-row-vertices c =
    let a = c.args in
    let s = tabled a.positions.now a.edges.now a.triangles.now a.stands.now in
    kept_as (numbered_pairs a.which s (forest_sized c.requires.forest.0) a.row c.requires.forest.1 EdgeEdge (a.row - c.vertex_count-vertices.result) (edge_row_of a.which s (a.row - c.vertex_count-vertices.result) a.row (omega (arith, c.vertex_count-vertices.ensures, c.if-row-vertices.false))) c.row_places-parts.ensures) c.keep_row-else-row-vertices.ensures

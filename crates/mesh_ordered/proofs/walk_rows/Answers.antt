-- `walk_rows`: the vertices' rows, and then the edges'.
use borrow.Author.Rules.{rules}
use native.Mathlib.Omega.{arith}
use Rattle.meaning.specs.declared.Kind.TheVariants.{PointTriangle}
use Rattle.scene_seams.specs.Alone.{tabled}
use Rattle.mesh_entries.specs.Entering.{entered_length}
use Rattle.mesh_runs.specs.Stretch.{vertices_fit, edges_fit, stretch_entered}
use Rattle.mesh_led_runs.specs.Put.{kind_most}
use Rattle.mesh_ordered.specs.Either.{vertex_either, edge_either, triangle_sorting, edge_sorting}
use Rattle.mesh_ordered.proofs.walk_rows.Goals as goal

pub walk_either-k-requires : goal.walk_either-k-requires
walk_either-k-requires c =
    let start = c in
    let a = start.args in
    let s = tabled a.positions.now a.edges.now a.triangles.now a.stands.now in
    let faces = c.triangle_count.ensures in
    let fits = vertices_fit s c.vertex_count-vertices.ensures c.kinds_meet-middle.ensures in record { either_tree = (vertex_either start.requires.forest.0 _ faces, fits.0, fits.1); parts_in_bounds = (triangle_sorting start.requires.orders_roomed.0 _ faces, start.requires.orders_roomed.1, omega arith) }

pub walk_either-requires : goal.walk_either-requires
walk_either-requires c =
    let start = c in
    let a = start.args in
    let s = tabled a.positions.now a.edges.now a.triangles.now a.stands.now in
    let counted = c.vertex_count-vertices.ensures in
    let parted = c.kinds_meet-middle.ensures in
    let sides = c.edge_count.ensures in
    let first = vertices_fit s counted parted in
    let fits = edges_fit s counted parted c.behind.ensures c.behind-2.ensures start.requires.forest.2 in
    let one = c.walk_either-k.ensures in
    let vertices = vertex_either start.requires.forest.0 _ c.triangle_count.ensures in
    let few = kind_most a.which s PointTriangle vertices.few vertices.few_rows a.first c.kinds_meet-middle.result first.0 first.1 in record { either_tree = (edge_either start.requires.forest.0 _ _ sides counted, fits.0, fits.1); parts_in_bounds = (λ some. omega (arith, edge_sorting start.requires.orders_roomed.0 _ sides some, c.places-1.given), omega (arith, start.requires.orders_roomed.1, entered_length one), omega (arith, one.counts)) }

pub returns : goal.returns
returns c =
    let a = c.args in
    let s = tabled a.positions.now a.edges.now a.triangles.now a.stands.now in
    stretch_entered s c.vertex_count-vertices.ensures c.kinds_meet-middle.ensures a.which c.behind.ensures c.behind-2.ensures
    c.walk_either-k.ensures
    c.walk_either.ensures

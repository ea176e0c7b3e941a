-- `walk_near`: the vertices' rows, and then the edges'.
use native.Mathlib.Omega.{arith}
use Rattle.meaning.specs.declared.RowPairs.TheVariants.{Near}
use Rattle.scene_seams.specs.Alone.{tabled}
use Rattle.mesh_entries.specs.Entering.{entered_length}
use Rattle.mesh_runs.specs.Stretch.{vertices_fit, edges_fit, stretch_entered}
use Rattle.near_runs.specs.Near.{vertex_near, edge_near, near_most}
use Rattle.near_runs.proofs.walk_near.Goals as goal

pub walk_kind-k-requires : goal.walk_kind-k-requires
walk_kind-k-requires c =
    let start = c in
    let a = start.args in
    let s = tabled a.positions.now a.edges.now a.triangles.now a.stands.now in
    let fits = vertices_fit s c.vertex_count-vertices.ensures c.kinds_meet-middle.ensures in record { near_kind = (vertex_near start.requires.near_forest.0 _ c.triangle_count.ensures, fits.0, fits.1); in_bounds = (omega arith, omega arith); most_in_bounds = (start.requires.most_in_bounds, omega arith) }

pub walk_kind-requires : goal.walk_kind-requires
walk_kind-requires c =
    let start = c in
    let a = start.args in
    let s = tabled a.positions.now a.edges.now a.triangles.now a.stands.now in
    let counted = c.vertex_count-vertices.ensures in
    let parted = c.kinds_meet-middle.ensures in
    let first = vertices_fit s counted parted in
    let fits = edges_fit s counted parted c.behind.ensures c.behind-2.ensures start.requires.near_forest.2 in
    let one = c.walk_kind-k.ensures in
    let few = near_most (vertex_near start.requires.near_forest.0 _ c.triangle_count.ensures) a.first c.kinds_meet-middle.result first.0 first.1 in record { near_kind = (edge_near start.requires.near_forest.0 _ _ c.edge_count.ensures counted, fits.0, fits.1); in_bounds = (omega (arith, c.six-2-1.given), omega (arith, c.marks-2-1.given)); most_in_bounds = (omega (arith, start.requires.most_in_bounds, entered_length one), omega (arith, one.counts)) }

pub returns : goal.returns
returns c =
    let start = c in
    let a = start.args in
    let s = tabled a.positions.now a.edges.now a.triangles.now a.stands.now in
    stretch_entered s c.vertex_count-vertices.ensures c.kinds_meet-middle.ensures Near c.behind.ensures c.behind-2.ensures
    c.walk_kind-k.ensures
    c.walk_kind.ensures

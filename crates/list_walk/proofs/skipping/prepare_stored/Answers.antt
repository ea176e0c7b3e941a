-- `skipping::prepare_stored`: the stored boxes are copied, then the runs joined.
use native.Mathlib.Omega.{arith}
use Rattle.scene_checks.specs.Facts.{accepted_sized}
use Rattle.list_walk.specs.Taking.{taken_boxed}
use Rattle.list_walk.proofs.skipping.prepare_stored.Goals as goal

pub copy_numbers-requires : goal.copy_numbers-requires
copy_numbers-requires c =
    let start = c in
    let sized = accepted_sized start.requires.0 in
    let v = c.vertex_count.ensures in
    let e = c.edge_count.ensures in
    let t = c.triangle_count.ensures in
    (omega (arith, start.requires.1.room), omega (arith, start.requires.1.room, start.requires.2, sized.few_vertices, sized.few_edges, sized.few_triangles))

pub join_runs-requires : goal.join_runs-requires
join_runs-requires c =
    let start = c in
    let sized = accepted_sized start.requires.0 in
    let v = c.vertex_count.ensures in
    let e = c.edge_count.ensures in
    let t = c.triangle_count.ensures in
    let copied = c.copy_numbers.ensures in
    (start.requires.0, taken_boxed start.requires.1 (omega arith) copied (omega (arith, start.requires.2, sized.few_vertices, sized.few_edges, sized.few_triangles)), omega (arith, start.requires.2, copied.same))

pub returns : goal.returns
returns c = c.join_runs.ensures

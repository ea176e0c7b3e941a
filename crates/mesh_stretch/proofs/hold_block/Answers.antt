-- `hold_block`: the rows of the block are held behind those before them.
use native.Mathlib.Omega.{arith}
use Rattle.scene_seams.specs.Alone.{tabled}
use Rattle.mesh_entries.specs.Telling.{mesh_entries_length}
use Rattle.meaning.specs.MeshRows.{rows_in}
use Rattle.mesh_stretch.specs.Holding.{rows_few, block_held}
use Rattle.mesh_stretch.proofs.hold_block.Goals as goal

pub walk_block-more-requires : goal.walk_block-more-requires
walk_block-more-requires c = record { forest = c.requires.forest; orders_roomed = (c.requires.orders_roomed.0, c.requires.orders_roomed.1, omega (arith, c.requires.orders_roomed.2)) }

pub hold_walked-held-requires : goal.hold_walked-held-requires
hold_walked-held-requires c =
    let start = c in
    let a = start.args in
    let s = tabled a.positions.now a.edges.now a.triangles.now a.stands.now in
    let walked = c.walk_block-more.ensures in
    let few = rows_few a.which s start.requires.forest.0 a.first a.end start.requires.forest.2 in
    let long = mesh_entries_length (rows_in a.which s a.first a.end) in
    (λ yes. omega (arith, start.requires.orders_roomed.4 yes, walked.1.same), omega (arith, walked.0.counts))

pub overflow_add-result : goal.overflow_add-result
overflow_add-result c =
    let start = c in
    let a = start.args in
    let s = tabled a.positions.now a.edges.now a.triangles.now a.stands.now in
    let walked = c.walk_block-more.ensures in
    let few = rows_few a.which s start.requires.forest.0 a.first a.end start.requires.forest.2 in
    let long = mesh_entries_length (rows_in a.which s a.first a.end) in
    omega (arith, walked.0.counts, start.requires.orders_roomed.3)

pub returns : goal.returns
returns c =
    let start = c in
    let walked = c.walk_block-more.ensures in
    block_held start.requires.forest.1 walked.1 start.requires.orders_roomed.2 walked.0 c.hold_walked-held.ensures

use native.Mathlib.Omega.{arith}
use mathlib.Core.Path.{◌≡◌, refl}
use Rattle.meaning.specs.MeshRows.{rows_in}
use Rattle.scene_seams.specs.Alone.{tabled}
use Rattle.mesh_entries.specs.Telling.{mesh_entries_length}
use Rattle.mesh_stretch.specs.Holding.{rows_held_starts, rows_few}
use Rattle.mesh_stretch.proofs.hold_rows.Goals as goal

pub loop-row-init : goal.loop-row-init
loop-row-init c = let start = c in (refl, refl, (omega arith, omega arith), (omega arith, start.requires.forest.1), rows_held_starts _ _ _ _ _ start.requires.orders_roomed.1)

pub block_end-next-requires : goal.block_end-next-requires
block_end-next-requires c =
    let pre = c.requires.forest in
    let inv = c.loop-row.invariant in
    (c.loop-row-test.true, omega (arith, pre.2, pre.0.few_vertices, pre.0.few_edges), inv.2.0, inv.2.1)

pub slice_bounds-hold_block-end : goal.slice_bounds-hold_block-end
slice_bounds-hold_block-end c = c.loop-row.invariant.1

pub hold_block-walked-requires : goal.hold_block-walked-requires
hold_block-walked-requires c =
    let start = c in
    let a = start.args in
    let loop = c.loop-row in
    let ends = c.block_end-next.ensures in
    let few = rows_few a.which (tabled a.positions.now a.edges.now a.triangles.now a.stands.now) start.requires.forest.0 a.first loop.row (omega (arith, start.requires.forest.2, loop.invariant.3.1)) in record { forest = (start.requires.forest.0, omega (arith, ends.0), omega (arith, ends.1, start.requires.forest.2), start.requires.forest.3); orders_roomed = (start.requires.orders_roomed.0, omega (arith, start.requires.orders_roomed.1, loop.invariant.0), loop.invariant.1, omega (arith, few, loop.invariant.4.counts), λ yes. omega (arith, loop.invariant.4.counts, (loop.invariant.4.holds yes).room, mesh_entries_length (rows_in a.which (tabled a.positions.now a.edges.now a.triangles.now a.stands.now) a.first loop.row))) }

pub overflow_sub-next : goal.overflow_sub-next
overflow_sub-next c = omega (arith, c.block_end-next.ensures.0)

pub overflow_sub-walked : goal.overflow_sub-walked
overflow_sub-walked c = omega (arith, c.hold_block-walked.ensures.counts)

pub block_rows-rows-requires : goal.block_rows-rows-requires
block_rows-rows-requires c =
    let pre = c.requires.forest in
    omega (arith, c.block_end-next.ensures.1, pre.2, pre.0.few_vertices, pre.0.few_edges)

pub loop-row-smaller : goal.loop-row-smaller
loop-row-smaller c = let ends = c.block_end-next.ensures in omega (arith, ends.0, ends.1)

pub shape_of-places : goal.shape_of-places
shape_of-places c = c.loop-row.invariant.0

pub returns : goal.returns
returns c =
    let loop = c.loop-row in
    let all : loop.row ≡ c.args.end = omega (arith, c.loop-row-test.false, loop.invariant.3.1) in
    rw all at loop.invariant.4

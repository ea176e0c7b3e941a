use borrow.Author.Rules.{rules}
use native.Mathlib.Omega.{arith}
use mathlib.Core.Path.{refl, sym}
use Rattle.mesh_entries.specs.Entering.{entered_length}
use Rattle.mesh_ordered.specs.Either.{lent_as}
use Rattle.mesh_wanted.specs.Stretch.{stretch_starts, stretch_goes_on, stretch_few, stretch_ends}
use Rattle.mesh_wanted.proofs.keep_stretch.Goals as goal

pub loop-row-init : goal.loop-row-init
loop-row-init c = (search rules, stretch_starts _ _ _ _ _ _ _ _ _ c.requires.forest.1, omega arith, omega arith, refl)

pub block_end-next-requires : goal.block_end-next-requires
block_end-next-requires c =
    let p = c.requires.forest in
    let so = c.loop-row.invariant in
    (c.loop-row-test.true, omega (arith, p.2, p.0.few_vertices, p.0.few_edges), so.2, so.3)

pub slice_bounds-keep_block-end : goal.slice_bounds-keep_block-end
slice_bounds-keep_block-end c = sym c.loop-row.invariant.4

pub keep_block-so_far-requires : goal.keep_block-so_far-requires
keep_block-so_far-requires c =
    let so = c.loop-row.invariant in
    let next = c.block_end-next.result in
    let ends = c.block_end-next.ensures in
    let sound = c.requires.sound in record { forest = (c.requires.forest.0, omega (arith, ends.0), omega (arith, c.requires.forest.2, ends.1), c.requires.forest.3); orders_lent = lent_as c.requires.orders_lent so.0; sound = (sound.0, omega (arith, sound.1, entered_length so.1.done.list), omega (arith, sound.2, entered_length so.1.done.bytes), stretch_few so.1 next (omega (arith, ends.0)) c.requires.forest.0 (omega (arith, c.requires.forest.2, ends.1)) sound.3); in_bounds = omega (arith, so.4) }

pub overflow_sub-next : goal.overflow_sub-next
overflow_sub-next c = omega (arith, c.block_end-next.ensures.0)

pub loop-row-smaller : goal.loop-row-smaller
loop-row-smaller c = let ends = c.block_end-next.ensures in omega (arith, ends.0, ends.1)

pub loop-row-preserved : goal.loop-row-preserved
loop-row-preserved c =
    let so = c.loop-row.invariant in
    let same = so.0 in
    let ends = c.block_end-next.ensures in
    let rows = c.block_rows-rows.ensures in
    (omega (arith, same), stretch_goes_on so.1 c.block_end-next.result ends.0 ends.1 c.keep_block-so_far.ensures, rows.0, rows.1, omega (arith, so.4))

pub shape_of-places : goal.shape_of-places
shape_of-places c = c.loop-row.invariant.0

pub shape_of-list : goal.shape_of-list
shape_of-list c = entered_length c.loop-row.invariant.1.done.list

pub shape_of-words : goal.shape_of-words
shape_of-words c = entered_length c.loop-row.invariant.1.done.bytes

pub returns : goal.returns
returns c = stretch_ends c.loop-row.invariant.1 c.loop-row-test.false

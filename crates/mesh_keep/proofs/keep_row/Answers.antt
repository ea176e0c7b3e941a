use native.Mathlib.Omega.{arith}
use Rattle.mesh_entries.specs.Entering.{entered_length}
use Rattle.mesh_keep.specs.OfRows.{row_starts, row_goes, row_few, row_ends}
use Rattle.mesh_keep.proofs.keep_row.Goals as goal

pub loop-k-init : goal.loop-k-init
loop-k-init c = row_starts _ _ _ _ _ _ _ _ _ _

pub keep_pair-so_far-requires : goal.keep_pair-so_far-requires
keep_pair-so_far-requires c =
    let row = c.requires.sound.1 in
    let loop = c.loop-k in
    let below = c.loop-k-test.true in
    let place = c.wide.ensures in record { sound = (c.requires.sound.0, rw place (row.there loop.k below), row.low, rw place (row.narrow loop.k below)); most_in_bounds = (omega (arith, c.requires.most_in_bounds.0, entered_length loop.invariant.done.list), omega (arith, c.requires.most_in_bounds.1, entered_length loop.invariant.done.bytes), omega (arith, c.requires.most_in_bounds.2, row_few loop.invariant row.room)) }

pub loop-k-preserved : goal.loop-k-preserved
loop-k-preserved c =
    let below = c.loop-k-test.true in
    row_goes c.loop-k.invariant below c.requires.sound.1.room (rw c.wide.ensures at c.keep_pair-so_far.ensures)

pub shape_of-list : goal.shape_of-list
shape_of-list c = entered_length c.loop-k.invariant.done.list

pub shape_of-words : goal.shape_of-words
shape_of-words c = entered_length c.loop-k.invariant.done.bytes

pub returns : goal.returns
returns c = row_ends c.loop-k.invariant c.loop-k-test.false

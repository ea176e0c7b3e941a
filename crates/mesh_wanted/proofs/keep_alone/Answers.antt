use borrow.Author.Rules.{rules}
use native.Mathlib.Omega.{arith}
use Rattle.mesh_entries.specs.Entering.{entered_length}
use Rattle.mesh_ordered.specs.Either.{lent_as}
use Rattle.mesh_wanted.specs.Stretch.{stretch_starts, stretch_goes, alone_few, stretch_ends}
use Rattle.mesh_wanted.proofs.keep_alone.Goals as goal

pub loop-row-init : goal.loop-row-init
loop-row-init c = (search rules, stretch_starts _ _ _ _ _ _ _ _ _ c.requires.forest.1)

pub keep_numbered-so_far-requires : goal.keep_numbered-so_far-requires
keep_numbered-so_far-requires c =
    let loop = c.loop-row in
    let below = c.loop-row-test.true in
    let same = loop.invariant.0 in record { forest = (c.requires.forest.0, omega (arith, c.requires.forest.2, below)); orders_lent = lent_as c.requires.orders_lent same; sound = (c.requires.sound.0, omega (arith, c.requires.sound.1, entered_length loop.invariant.1.done.list), omega (arith, c.requires.sound.2, entered_length loop.invariant.1.done.bytes), alone_few loop.invariant.1 (omega (arith, below)) c.requires.sound.3) }

pub loop-row-preserved : goal.loop-row-preserved
loop-row-preserved c = let same = c.loop-row.invariant.0 in (omega (arith, same), stretch_goes c.loop-row.invariant.1 c.loop-row-test.true c.keep_numbered-so_far.ensures)

pub shape_of-places : goal.shape_of-places
shape_of-places c = c.loop-row.invariant.0

pub shape_of-list : goal.shape_of-list
shape_of-list c = entered_length c.loop-row.invariant.1.done.list

pub shape_of-words : goal.shape_of-words
shape_of-words c = entered_length c.loop-row.invariant.1.done.bytes

pub returns : goal.returns
returns c = stretch_ends c.loop-row.invariant.1 c.loop-row-test.false

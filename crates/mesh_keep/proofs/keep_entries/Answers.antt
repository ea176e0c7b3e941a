use native.Mathlib.Omega.{arith}
use Rattle.mesh_entries.specs.Entering.{entered_length}
use Rattle.mesh_keep.specs.Entries.{entries_start, entries_go, entries_few, entries_end}
use Rattle.mesh_keep.proofs.keep_entries.Goals as goal

pub loop-k-init : goal.loop-k-init
loop-k-init c = entries_start _ _ _ _ _ _ _ _

pub keep_entry-so_far-requires : goal.keep_entry-so_far-requires
keep_entry-so_far-requires c =
    let loop = c.loop-k in
    let below = c.loop-k-test.true in record { sound = (c.requires.sound.0, c.requires.sound.1.each loop.k below); most_in_bounds = (omega (arith, c.requires.most_in_bounds.0, entered_length loop.invariant.done.list), omega (arith, c.requires.most_in_bounds.1, entered_length loop.invariant.done.bytes), omega (arith, c.requires.most_in_bounds.2, below, entries_few loop.invariant c.requires.sound.1.room)) }

pub loop-k-preserved : goal.loop-k-preserved
loop-k-preserved c = entries_go c.loop-k.invariant c.loop-k-test.true c.requires.sound.1.room c.keep_entry-so_far.ensures

pub shape_of-list : goal.shape_of-list
shape_of-list c = entered_length c.loop-k.invariant.done.list

pub shape_of-words : goal.shape_of-words
shape_of-words c = entered_length c.loop-k.invariant.done.bytes

pub returns : goal.returns
returns c = entries_end c.loop-k.invariant c.loop-k-test.false

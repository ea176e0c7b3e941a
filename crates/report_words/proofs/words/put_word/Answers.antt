use native.Mathlib.Nat.{add-zero, add_assoc}
use native.Mathlib.Omega.{arith}
use mathlib.Core.Path.{◌≡◌}
use lib.ListN.{length, drop_of_length-le}
use Rattle.sequences.specs.Parts.{drop_next}
use Rattle.sequences.specs.Writing.{writing_starts, writing_as, writing_room, writing_step, writing_ends}
use Rattle.report_words.proofs.words.put_word.Goals as goal

pub loop-i-init : goal.loop-i-init
loop-i-init c = rw (add-zero c.args.at) (writing_starts c.args.out.now c.args.at c.args.word.now c.requires)

pub overflow_add-out : goal.overflow_add-out
overflow_add-out c = omega (arith, c.loop-i.invariant.room, c.loop-i.invariant.same)

pub bounds-out-at : goal.bounds-out-at
bounds-out-at c =
    let a = c.args in
    writing_room (writing_as (drop_next a.word.now c.loop-i.i 0 c.loop-i-test.true) c.loop-i.invariant)

pub loop-i-preserved : goal.loop-i-preserved
loop-i-preserved c =
    let a = c.args in
    rw (← add_assoc a.at c.loop-i.i 1) (writing_step (writing_as (drop_next a.word.now c.loop-i.i 0 c.loop-i-test.true) c.loop-i.invariant))

pub shape_of-out : goal.shape_of-out
shape_of-out c = c.loop-i.invariant.same

pub returns : goal.returns
returns c =
    let a = c.args in
    let whole : c.loop-i.i ≡ length a.word.now = omega arith in
    rw (← whole) (writing_ends (omega (arith, c.requires)) (writing_as (drop_of_length-le a.word.now c.loop-i-test.false) c.loop-i.invariant))

use native.Mathlib.Omega.{arith}
use Rattle.saved_scene.specs.Lengths.{numbers_next, numbers_none}
use Rattle.saved_scene.proofs.lengths.numbers_length.Goals as goal

pub overflow_add-total : goal.overflow_add-total
overflow_add-total c = omega (arith, c.loop-i.invariant, c.number_length-total.ensures)

pub loop-i-preserved : goal.loop-i-preserved
loop-i-preserved c =
    let here = c.number_length-total.ensures in
    (omega (arith, c.loop-i.invariant, here, numbers_next c.args.list.now c.loop-i.i (omega arith)), omega (arith, c.loop-i.invariant, here))

pub returns : goal.returns
returns c = (omega (arith, c.loop-i.invariant, numbers_none c.args.list.now c.loop-i.i (omega arith)), omega (arith, c.loop-i.invariant))

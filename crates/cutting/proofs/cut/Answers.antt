use Rattle.std.proofs.Common.{suc, ◌+◌, ◌-◌, ◌≤◌, ◌≡◌, arith}
use Rattle.cutting.specs.Cut.{unit}
use Rattle.cutting.specs.Steps.{cutting_starts, cutting_step, cutting_small, digit_small}
use Rattle.cutting.proofs.cut.Goals as goal

pub loop-init : goal.loop-init
loop-init c = cutting_starts c.args.part c.args.whole c.requires.0

small : (c : goal.In-loop) → c.loop.number ≤ unit
small c = cutting_small _ _ _ _ _ c.requires.0 c.requires.1 c.loop.invariant

pub overflow_mul-four : goal.overflow_mul-four
overflow_mul-four c = omega (arith, c.loop.invariant.below, c.requires.2)

pub overflow_mul-number : goal.overflow_mul-number
overflow_mul-number c = omega (arith, small c)

pub overflow_add-number : goal.overflow_add-number
overflow_add-number c = omega (arith, small c, digit_small c.args.whole c.loop.rest c.requires.0 c.loop.invariant.below)

pub loop-preserved : goal.loop-preserved
loop-preserved c =
    let one_less : 10 - c.loop.counter ≡ suc (10 - (c.loop.counter + 1)) = omega arith in
    cutting_step _ _ _ _ _ c.requires.0 (rw one_less at c.loop.invariant)

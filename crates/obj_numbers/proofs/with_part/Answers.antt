-- `obj_numbers::with_part` meets its contract: one digit is tenths, two are hundredths.
use native.Mathlib.Omega.{arith}
use borrow.Author.Rules.{rules}
use Rattle.obj_numbers.specs.Sizing.{part_bad, part_small, part_tenths, part_hundredths}
use Rattle.obj_numbers.proofs.with_part.Goals as goal

pub overflow_mul-result-then-s-eq1 : goal.overflow_mul-result-then-s-eq1
overflow_mul-result-then-s-eq1 c = omega (arith, part_small 0 c.args.s.now c.whole_of.ensures c.in_ok-part.was)

pub overflow_add-result : goal.overflow_add-result
overflow_add-result c = omega (arith, part_small 0 c.args.s.now c.whole_of.ensures c.in_ok-part.was, c.requires)

pub overflow_add-result-else-s-eq1 : goal.overflow_add-result-else-s-eq1
overflow_add-result-else-s-eq1 c = omega (arith, part_small 0 c.args.s.now c.whole_of.ensures c.in_ok-part.was, c.requires)

pub returns-in_err-part : goal.returns-in_err-part
returns-in_err-part c = rw c.from_residual.ensures (part_bad c.args.n c.args.s.now c.whole_of.ensures c.in_err-part.was)

pub returns-then-s-eq1 : goal.returns-then-s-eq1
returns-then-s-eq1 c = part_tenths c.args.n c.args.s.now c.whole_of.ensures c.in_ok-part.was c.if-s-eq1.true

pub returns-else-s-eq1 : goal.returns-else-s-eq1
returns-else-s-eq1 c = part_hundredths c.args.n c.args.s.now c.whole_of.ensures c.in_ok-part.was c.if-s-eq1.false

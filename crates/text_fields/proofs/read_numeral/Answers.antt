-- `text_fields::read_numeral` meets its contract: behind a minus digits other than 0 are a number; where no minus is taken, digits are.
use Rattle.std.proofs.Common.{arith}
use Rattle.text_fields.specs.Field.{plain_told, plain_told_bad, minus_there, MinusThere, minus_got, minus_zero, minus_bad, plain_got, plain_none}
use Rattle.text_fields.proofs.read_numeral.Goals as goal

minus : (c : goal.Then-minus) → MinusThere c.args.s.now c.args.at c.args.form
minus c = minus_there _ _ _ c.byte_at-first.ensures c.if-minus.true

pub overflow_add-at : goal.overflow_add-at
overflow_add-at c = omega (arith, (minus c).inside)

pub returns-in_err-below : goal.returns-in_err-below
returns-in_err-below c =
    rw c.from_residual.ensures
    (minus_bad _ _ _ (minus_there _ _ _ c.byte_at-first.ensures c.if-minus.true)
    (plain_told_bad _ _ _ c.read_plain.ensures c.in_err-below.was))

pub returns-then-below-eq0 : goal.returns-then-below-eq0
returns-then-below-eq0 c =
    minus_zero _ _ _ (minus_there _ _ _ c.byte_at-first.ensures c.if-minus.true)
    (rw c.if-below-eq0.true at (plain_told _ _ _ c.read_plain.ensures c.in_ok-below.was))

pub returns-then-minus : goal.returns-then-minus
returns-then-minus c =
    minus_got _ _ _ (minus_there _ _ _ c.byte_at-first.ensures c.if-minus.true) (omega arith)
    (plain_told _ _ _ c.read_plain.ensures c.in_ok-below.was)

pub returns-in_err-plain : goal.returns-in_err-plain
returns-in_err-plain c =
    rw c.from_residual-in_err-plain.ensures
    (plain_none _ _ _ c.byte_at-first.ensures c.if-minus.false (plain_told_bad _ _ _ c.read_plain-2.ensures c.in_err-plain.was))

pub returns : goal.returns
returns c = plain_got _ _ _ (plain_told _ _ _ c.read_plain-2.ensures c.in_ok-plain.was)

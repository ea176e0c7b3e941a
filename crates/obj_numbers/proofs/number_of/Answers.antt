-- `obj_numbers::number_of` meets its contract: no zero in front.
use borrow.Author.Rules.{rules}
use Rattle.obj_numbers.specs.Sizing.{number_zero, number_plain}
use Rattle.obj_numbers.proofs.number_of.Goals as goal

pub returns-then-byte_at-eq48 : goal.returns-then-byte_at-eq48
returns-then-byte_at-eq48 c = number_zero c.args.s.now c.byte_at.ensures c.if-byte_at-eq48.true

pub returns : goal.returns
returns c = number_plain c.args.s.now c.byte_at.ensures c.if-byte_at-eq48.false c.whole_of.ensures

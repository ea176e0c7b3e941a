-- `text_fields::read_field` meets its contract: without the separator there is no field, and behind it the number is the field's.
use native.Mathlib.Omega.{arith}
use Rattle.text_fields.specs.Field.{field_found, field_none}
use Rattle.text_fields.proofs.read_field.Goals as goal

pub returns-then-s-at : goal.returns-then-s-at
returns-then-s-at c = field_found _ _ _ c.if-at-s.true c.if-s-at.true _ c.read_numeral.ensures

pub returns-else-s-at : goal.returns-else-s-at
returns-else-s-at c = field_none _ _ _ (λ h e. c.if-s-at.false e)

pub returns-else-at-s : goal.returns-else-at-s
returns-else-at-s c = field_none _ _ _ (λ h e. omega arith)

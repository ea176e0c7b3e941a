-- `text_fields::read_plain` meets its contract: what was read is a number unless a digit stands behind it.
use Rattle.std.proofs.Common.{sym, ap, ◌∙◌}
use Rattle.decimals.specs.Byte.{digit_test}
use Rattle.text_fields.specs.Field.{plain_found, plain_long, plain_bad}
use Rattle.text_fields.proofs.read_plain.Goals as goal

pub returns-in_err-read : goal.returns-in_err-read
returns-in_err-read c = rw c.from_residual.ensures (plain_bad _ _ _ (sym c.read_number.ensures ∙ c.in_err-read.was))

pub returns-then-is_digit : goal.returns-then-is_digit
returns-then-is_digit c =
    plain_long _ _ _ _ _ (sym c.read_number.ensures ∙ c.in_ok-read.was)
    (ap digit_test (sym c.byte_at.ensures) ∙ sym c.is_digit.ensures ∙ c.if-is_digit.true)

pub returns : goal.returns
returns c =
    plain_found _ _ _ _ _ (sym c.read_number.ensures ∙ c.in_ok-read.was)
    (ap digit_test (sym c.byte_at.ensures) ∙ sym c.is_digit.ensures ∙ c.if-is_digit.false)

use native.Mathlib.Omega.{arith}
use mathlib.Core.Path.{ap}
use lib.ListN.{length}
use Rattle.decimals.specs.Digits.{digits}
use Rattle.decimals.specs.Value.{digits_length}
use Rattle.meaning.specs.Text.{numeral}
use Rattle.saved_numbers.proofs.number_length.Goals as goal

-- src/lib.rt:61:5
pub overflow_add-result : goal.overflow_add-result
overflow_add-result c = omega (arith, c.count_digits.ensures, digits_length 5 c.from.result (omega arith) (omega (arith, c.from.ensures)))

-- src/lib.rt:57:1
pub returns : goal.returns
unfolding numeral
returns c = (
  omega (arith, c.count_digits.ensures, ap (λ n. length (digits n)) c.from.ensures),
  omega (arith, c.count_digits.ensures, digits_length 5 c.from.result (omega arith) (omega (arith, c.from.ensures))),
)

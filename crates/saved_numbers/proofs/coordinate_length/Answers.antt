use borrow.Author.Rules.{rules}
use native.Mathlib.Omega.{arith}
use mathlib.Core.Path.{◌≡◌, sym, ap, ◌∙◌}
use lib.IntN.{pos, nat_abs}
use lib.ListN.{length, get_or}
use Rattle.decimals.specs.Digits.{digits}
use Rattle.saved_numbers.specs.Marked.{mark_below, mark_above, numeral_length, coordinate_short}
use Rattle.saved_numbers.proofs.coordinate_length.Goals as goal

-- src/lib.rt:44:9
pub overflow_add-result : goal.overflow_add-result
overflow_add-result c =
    let a = c.args in
    let z = get_or a.positions.now a.i (pos 0) in
    omega (arith, c.count_digits-digits.ensures, ap (λ n. length (digits n)) c.size_of.ensures, coordinate_short {z = z} (c.requires.1.at a.i))

-- src/lib.rt:46:9
pub overflow_add-result-else-is_negative : goal.overflow_add-result-else-is_negative
overflow_add-result-else-is_negative c =
    let a = c.args in
    let z = get_or a.positions.now a.i (pos 0) in
    omega (arith, c.count_digits-digits.ensures, ap (λ n. length (digits n)) c.size_of.ensures, coordinate_short {z = z} (c.requires.1.at a.i))

-- src/lib.rt:38:1
pub returns-then-is_negative : goal.returns-then-is_negative
returns-then-is_negative c =
    let a = c.args in
    let z = get_or a.positions.now a.i (pos 0) in (
      omega (arith, c.count_digits-digits.ensures, ap (λ n. length (digits n)) c.size_of.ensures, numeral_length z, ap length (mark_below z (sym c.is_negative.ensures ∙ c.if-is_negative.true))),
      omega (arith, c.count_digits-digits.ensures, ap (λ n. length (digits n)) c.size_of.ensures, coordinate_short {z = z} (c.requires.1.at a.i)),
    )

-- src/lib.rt:38:1
pub returns-else-is_negative : goal.returns-else-is_negative
returns-else-is_negative c =
    let a = c.args in
    let z = get_or a.positions.now a.i (pos 0) in (
      omega (arith, c.count_digits-digits.ensures, ap (λ n. length (digits n)) c.size_of.ensures, numeral_length z, ap length (mark_above z (sym c.is_negative.ensures ∙ c.if-is_negative.false))),
      omega (arith, c.count_digits-digits.ensures, ap (λ n. length (digits n)) c.size_of.ensures, coordinate_short {z = z} (c.requires.1.at a.i)),
    )

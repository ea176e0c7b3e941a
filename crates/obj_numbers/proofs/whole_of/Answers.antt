use mathlib.Core.Bool.{true}
use mathlib.Core.Path.{◌≡◌, sym, ◌∙◌}
use Prim.Native.Nat.{◌<◌}
use native.Mathlib.Omega.{arith}
use lib.ListN.{get_or}
use borrow.Author.Tests.{not-true, not-false}
use Rattle.decimals.specs.Byte.{IsDigit, digit_test, digit_passed}
use Rattle.obj_numbers.specs.Worth.{read_starts, read_fits, read_goes, read_stops, read_ends, none_or_many, counted_so}
use Rattle.obj_numbers.proofs.whole_of.Goals as goal

pub returns-then-count-most : goal.returns-then-count-most
returns-then-count-most c = none_or_many c.args.s.now c.args.most c.if-count-most.true

pub loop-byte-init : goal.loop-byte-init
loop-byte-init c = read_starts _

-- behind the test the byte is a digit, and ten times what is read so far, and a digit, fits
passes : (c : goal.Else-not-is_digit) → digit_test (get_or c.args.s.now c.loop-byte.byte-index 0) ≡ true
passes c = sym c.is_digit.ensures ∙ not-false _ c.if-not-is_digit.false-raw

fits : (c : goal.Else-not-is_digit) → c.loop-byte.worth < 1_000_000_000
fits c =
    let a = c in
    read_fits c.loop-byte.invariant c.loop-byte-test.true
    (omega (arith, a.requires, (counted_so a.args.s.now a.args.most c.if-count-most.false).few))

digit : (c : goal.Else-not-is_digit) → IsDigit (get_or c.args.s.now c.loop-byte.byte-index 0)
digit c = digit_passed (get_or c.args.s.now c.loop-byte.byte-index 0) (passes c)

pub returns-then-not-is_digit : goal.returns-then-not-is_digit
returns-then-not-is_digit c =
    read_stops c.loop-byte.invariant (counted_so _ _ c.if-count-most.false) c.loop-byte-test.true
    (sym c.is_digit.ensures ∙ not-true _ c.if-not-is_digit.true-raw)

pub overflow_mul-worth : goal.overflow_mul-worth
overflow_mul-worth c = omega (arith, fits c)

pub overflow_cast-worth : goal.overflow_cast-worth
overflow_cast-worth c = omega (arith, digit c)

pub overflow_sub-worth : goal.overflow_sub-worth
overflow_sub-worth c = omega (arith, digit c)

pub overflow_add-worth : goal.overflow_add-worth
overflow_add-worth c = omega (arith, fits c, digit c)

pub loop-byte-preserved : goal.loop-byte-preserved
loop-byte-preserved c = read_goes c.loop-byte.invariant c.loop-byte-test.true (passes c)

pub returns : goal.returns
returns c = read_ends c.loop-byte.invariant (counted_so _ _ c.if-count-most.false) c.loop-byte-test.false

use Rattle.std.proofs.Common.{arith, ◌≡◌, ◌+◌, ◌-◌, ◌<◌, true, sym, ap, ◌∙◌}
use Rattle.decimals.specs.Byte.{IsDigit, digit_test, digit_passed, digit_inside}
use Rattle.decimals.proofs.Scan.{scan_starts, scan_step, scan_fits, scan_stops, scan_full}
use Rattle.decimals.proofs.run_from.Goals as goal

pub loop-init : goal.loop-init
loop-init c = scan_starts _ _ _

-- behind the test the byte is a digit, and ten times what is read so far, and a digit, fits
passes : (c : goal.Else-not-is_digit) → digit_test c.byte_at-byte.result ≡ true
passes c = sym c.is_digit.ensures ∙ c.if-not-is_digit.false

digit : (c : goal.Else-not-is_digit) → IsDigit c.byte_at-byte.result
digit c = digit_passed c.byte_at-byte.result (passes c)

some : (c : goal.Else-not-is_digit) → 0 < c.args.limit - c.loop.counter
some c = omega (arith, c.loop-test.true)

fits : (c : goal.Else-not-is_digit) → c.loop.worth < 1_000_000_000_000_000_000
fits c = scan_fits c.loop.invariant c.requires (some c)

pub overflow_mul-worth : goal.overflow_mul-worth
overflow_mul-worth c = omega (arith, fits c)

pub overflow_cast-worth : goal.overflow_cast-worth
overflow_cast-worth c = omega (arith, digit c)

pub overflow_sub-worth : goal.overflow_sub-worth
overflow_sub-worth c = omega (arith, digit c)

pub overflow_add-worth : goal.overflow_add-worth
overflow_add-worth c = omega (arith, fits c, digit c)

pub overflow_add-next : goal.overflow_add-next
overflow_add-next c = omega (arith, digit_inside c.args.bytes.now c.loop.next (ap digit_test (sym c.byte_at-byte.ensures) ∙ passes c))

pub loop-preserved : goal.loop-preserved
loop-preserved c =
    let fewer : c.args.limit - c.loop.counter - 1 ≡ c.args.limit - (c.loop.counter + 1) = omega arith in
    rw fewer at (scan_step c.loop.invariant c.byte_at-byte.ensures (some c) (passes c))

pub returns-after-loop : goal.returns-after-loop
returns-after-loop c = scan_full c.loop.invariant (omega (arith, c.loop-test.false))

pub returns-then-not-is_digit : goal.returns-then-not-is_digit
returns-then-not-is_digit c = scan_stops c.loop.invariant c.byte_at-byte.ensures (sym c.is_digit.ensures ∙ c.if-not-is_digit.true)

-- Long division with the digit 4: what is cut so far, the rest, and how many digits are left, ten in all since 4^10 is 2^20.
use Rattle.std.specs.Prelude.{ℕ, suc, ◌+◌, ◌*◌, ◌/◌, ◌%◌, ◌^◌, ◌≤◌, ◌<◌, ◌≡◌}
use Rattle.std.proofs.Common.{mul_assoc, mul_comm, add-mul, mul-one, pow-suc, mul-le-mul_left, le_of_mul-le-mul_right, le_trans, le-mul_of_pos_right, le_of_eq, mod-lt, div-add-mod', arith, sym, ap, ◌∙◌}
use Rattle.std.proofs.Math.Nat.{one-le-pow, div-le_of_le-mul}
use Rattle.cutting.specs.Cut.{unit, CutTo}

-- what is cut and the rest, with the digits left still to come, are 2^20 times the part
pub record Cutting (part whole number rest left : ℕ) : Type 0 where
  pub below : rest < whole
  pub exact : (number * whole + rest) * 4 ^ left ≡ unit * part

pub cutting_done : (part whole number rest : ℕ) → Cutting part whole number rest 0 → CutTo part whole number
cutting_done part whole number rest c =
    let e : number * whole + rest ≡ unit * part = sym (mul-one (number * whole + rest)) ∙ c.exact in
    let m : (number + 1) * whole ≡ number * whole + 1 * whole = add-mul number 1 whole in
    let b : rest < whole = c.below in
    record { not_above = omega arith; near = omega arith }

pub cutting_starts : (part whole : ℕ) → 0 < whole → Cutting part whole (part / whole) (part % whole) 10
cutting_starts part whole w =
    record { below = mod-lt part w; exact = ap (λ (n : ℕ). n * unit) (div-add-mod' part whole) ∙ mul_comm part unit }

-- the next digit is how often the whole goes into four times the rest
next_digit : (n w r q r' : ℕ) → q * w + r' ≡ r * 4 → (n * 4 + q) * w + r' ≡ 4 * (n * w + r)
next_digit n w r q r' e =
    let a : (n * 4 + q) * w ≡ n * 4 * w + q * w = add-mul (n * 4) q w in
    let b : n * 4 * w ≡ 4 * (n * w) = ap (λ (x : ℕ). x * w) (mul_comm n 4) ∙ mul_assoc 4 n w in
    omega arith

pub cutting_step : (part whole number rest left : ℕ) → 0 < whole → Cutting part whole number rest (suc left)
    → Cutting part whole (number * 4 + rest * 4 / whole) (rest * 4 % whole) left
cutting_step part whole number rest left w c =
    record {
      below = mod-lt (rest * 4) w;
      exact =
          ap (λ (n : ℕ). n * 4 ^ left) (next_digit number whole rest (rest * 4 / whole) (rest * 4 % whole) (div-add-mod' (rest * 4) whole))
          ∙ (ap (λ (n : ℕ). n * 4 ^ left) (mul_comm 4 (number * whole + rest))
          ∙ mul_assoc (number * whole + rest) 4 (4 ^ left)
          ∙ ap (λ (n : ℕ). (number * whole + rest) * n) (mul_comm 4 (4 ^ left) ∙ sym (pow-suc 4 left))
          ∙ c.exact);
    }

-- on the way no number is larger than the last
pub cutting_small : (part whole number rest left : ℕ) → 0 < whole → part ≤ whole → Cutting part whole number rest left → number ≤ unit
cutting_small part whole number rest left w h c =
    let a : number * whole ≤ number * whole + rest = omega arith in
    let b : number * whole + rest ≤ (number * whole + rest) * 4 ^ left = le-mul_of_pos_right (number * whole + rest) (one-le-pow left 4 (omega arith)) in
    le_of_mul-le-mul_right {k = whole} (le_trans a (le_trans b (le_trans (le_of_eq c.exact) (mul-le-mul_left unit h)))) w

pub digit_small : (whole rest : ℕ) → 0 < whole → rest < whole → rest * 4 / whole ≤ 4
digit_small whole rest w h = div-le_of_le-mul whole (rw (mul_comm whole 4) (omega arith))

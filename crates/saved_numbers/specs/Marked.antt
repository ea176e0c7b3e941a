-- A numeral is its mark, a minus or nothing, and the digits of its size; and coordinates that are in their range.
use Rattle.std.specs.Prelude.{Bool, true, false, List, [], ◌∷◌, ◌++◌, ◌≡◌, refl, ℕ, zero, suc, ◌+◌, ◌≤◌, ◌<◌, ltb, ℤ, pos, negsuc, nat_abs, length, get_or}
use Rattle.std.proofs.Common.{true≢false, sym, ap, ◌∙◌, arith, lit≤}
use Rattle.std.specs.Int.Signed.{lt_z}
use Rattle.whole.specs.Signs.{sgn, is_negative, lt_nought}
use Rattle.whole.specs.Sizes.{Within}
use Rattle.decimals.specs.Digits.{digits}
use Rattle.decimals.specs.Value.{digits_length}
use Rattle.meaning.specs.Limits.{coordinate_limit}
use Rattle.meaning.specs.Text.{numeral, minus_sign}

-- every coordinate is in its range; past the end stands 0
pub record Coordinates (ps : List ℤ) : Type 0 where
  pub at : (i : ℕ) → Within coordinate_limit (get_or ps i (pos 0))

-- a minus, or nothing
unfoldable pub mark_of : ℤ → List ℕ
mark_of (pos n) = []
mark_of (negsuc n) = minus_sign ∷ []

pub mark_digits : (z : ℤ) → mark_of z ++ digits (nat_abs z) ≡ numeral z
unfolding mark_of numeral
mark_digits (pos n) = refl
mark_digits (negsuc n) = refl

pub mark_below : (z : ℤ) → lt_z z (pos 0) ≡ true → mark_of z ≡ minus_sign ∷ []
unfolding mark_of
mark_below z e = go z (sym (lt_nought z) ∙ e)
  where
    go : (z : ℤ) → is_negative (sgn z) ≡ true → mark_of z ≡ minus_sign ∷ []
    go (pos zero) h = absurd (true≢false (sym h))
    go (pos (suc n)) h = absurd (true≢false (sym h))
    go (negsuc n) h = refl

pub mark_above : (z : ℤ) → lt_z z (pos 0) ≡ false → mark_of z ≡ []
unfolding mark_of
mark_above z e = go z (sym (lt_nought z) ∙ e)
  where
    go : (z : ℤ) → is_negative (sgn z) ≡ false → mark_of z ≡ []
    go (pos n) h = refl
    go (negsuc n) h = absurd (true≢false h)

pub mark_short : (z : ℤ) → length (mark_of z) ≤ 1
unfolding mark_of
mark_short (pos n) = omega arith
mark_short (negsuc n) = omega arith

pub numeral_length : (z : ℤ) → length (numeral z) ≡ length (mark_of z) + length (digits (nat_abs z))
unfolding mark_of numeral
numeral_length (pos n) = omega arith
numeral_length (negsuc n) = omega arith

-- a coordinate has at most six digits
pub coordinate_short : {z : ℤ} → Within coordinate_limit z → length (digits (nat_abs z)) ≤ 6
coordinate_short {z} h = digits_length 6 (nat_abs z) (omega arith) (omega (arith, h.size))

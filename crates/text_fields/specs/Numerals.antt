-- Where a number in a text ends: what follows it is no digit. So a text begins with one number at most.
use Rattle.std.specs.Prelude.{false, ◌≡◌, refl, ℕ, suc, ◌<◌, ℤ, pos, negsuc, length, get_or, drop}
use Rattle.std.proofs.Common.{true≢false, ⊎_elim, sym, ap, ◌∙◌, subst, add-zero, arith, get_or-drop}
use mathlib.Core.List.{List, [], ◌∷◌, ◌++◌, Memᴰ}
use Rattle.std.proofs.Math.Nat.{suc_inj}
use Rattle.sequences.specs.Pick.{either}
use Rattle.decimals.specs.Byte.{IsDigit, byte_at, digit_test, digit_passes, digit_passed}
use Rattle.decimals.specs.Digits.{digits}
use Rattle.decimals.specs.Value.{digits_unique, digits_canonical}
use Rattle.meaning.specs.Text.{numeral, minus_sign}

-- the text begins with no digit
unfoldable pub Ends : List ℕ → Type 0
Ends [] = Unit
Ends (b ∷ l) = ¬ IsDigit b

pub ends_at : (s : List ℕ) (n : ℕ) → digit_test (byte_at s n) ≡ false → Ends (drop n s)
unfolding Ends
ends_at s n e = front (drop n s) (rw (get_or-drop, add-zero) e)
  where
    front : (l : List ℕ) → digit_test (get_or l 0 0) ≡ false → Ends l
    front [] t = tt
    front (b ∷ l) t = λ d. true≢false (sym (digit_passes d) ∙ t)

pub ends_byte : (s : List ℕ) (n : ℕ) → Ends (drop n s) → digit_test (byte_at s n) ≡ false
unfolding Ends
ends_byte s n e = rw (get_or-drop, add-zero) at (front (drop n s) e)
  where
    front : (l : List ℕ) → Ends l → digit_test (get_or l 0 0) ≡ false
    front [] t = refl
    front (b ∷ l) t = ⊎_elim (λ d. absurd (t (digit_passed b d))) (λ d. d) (either (digit_test b))

abbrev Each : List ℕ → Type 0
Each l = (b : ℕ) → Memᴰ b l → IsDigit b

-- digits, as far as they go
span_unique : (l k x y : List ℕ) → Each l → Each k → Ends x → Ends y → l ++ x ≡ k ++ y → (l ≡ k) × (x ≡ y)
unfolding Ends
span_unique [] [] x y u v s t e = (refl, e)
span_unique [] (b ∷ k) x y u v s t e = absurd (subst Ends e s (v b (Memᴰ.head refl)))
span_unique (a ∷ l) [] x y u v s t e = absurd (subst Ends (sym e) t (u a (Memᴰ.head refl)))
span_unique (a ∷ l) (b ∷ k) x y u v s t e =
    let (same, rest) = span_unique l k x y (λ c m. u c (Memᴰ.tail m)) (λ c m. v c (Memᴰ.tail m)) s t (cc) in
    let head : a ≡ b = cc in
    (λ i. head i ∷ same i, rest)

pub digits_cancel : (n m : ℕ) (x y : List ℕ) → Ends x → Ends y → digits n ++ x ≡ digits m ++ y → (n ≡ m) × (x ≡ y)
digits_cancel n m x y s t e =
    let (same, rest) = span_unique (digits n) (digits m) x y (digits_canonical n).each (digits_canonical m).each s t e in
    (digits_unique n m same, rest)

-- no number without a minus begins as one with it
pub digits_plain : (n : ℕ) (x l : List ℕ) → digits n ++ x ≡ minus_sign ∷ l → ⊥
digits_plain n x l e = go (digits n) (digits_canonical n).each (digits_canonical n).some e
  where
    go : (k : List ℕ) → Each k → 0 < length k → k ++ x ≡ minus_sign ∷ l → ⊥
    go [] u s q = omega arith
    go (b ∷ k) u s q = let here : b ≡ minus_sign = cc in omega (arith, (u b (Memᴰ.head refl)).low)

pub numeral_cancel : (a b : ℤ) (x y : List ℕ) → Ends x → Ends y → numeral a ++ x ≡ numeral b ++ y → (a ≡ b) × (x ≡ y)
unfolding numeral
numeral_cancel (pos n) (pos m) x y s t e =
    let (same, rest) = digits_cancel n m x y s t e in
    (ap pos same, rest)
numeral_cancel (pos n) (negsuc m) x y s t e = absurd (digits_plain n x (digits (suc m) ++ y) e)
numeral_cancel (negsuc n) (pos m) x y s t e = absurd (digits_plain m y (digits (suc n) ++ x) (sym e))
numeral_cancel (negsuc n) (negsuc m) x y s t e =
    let (same, rest) = digits_cancel (suc n) (suc m) x y s t (cc) in
    (ap negsuc (suc_inj same), rest)

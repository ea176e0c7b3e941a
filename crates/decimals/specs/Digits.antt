-- The decimal digits of a number, as bytes: 48 to 57 for 0 to 9, the most significant first, and one byte for zero.
use Rattle.std.specs.Prelude.{true, false, List, [], ◌∷◌, ◌++◌, ◌≡◌, ℕ, zero, suc, ◌+◌, ◌/◌, ◌%◌, ◌≤◌, ◌<◌, ltb}
use Rattle.std.proofs.Common.{⊎_elim, ap, ◌∙◌, not-suc-le-zero, arith, lt-ltb, le-ltb}
use Rattle.sequences.specs.Range.{le_or_lt}

-- the byte of a digit
abbrev pub digit_byte : ℕ → ℕ
digit_byte d = 48 + d

-- at most so many: a number below ten is one digit, and any other has the digits of its tenth part before its last one
unfoldable pub digits_within : ℕ → ℕ → List ℕ
digits_within zero n = []
digits_within (suc most) n =
    elim (ltb n 10) [ true ↦ digit_byte n ∷ [] | false ↦ digits_within most (n / 10) ++ (digit_byte (n % 10) ∷ []) ]

-- a number n never has more than n + 1
unfoldable pub digits : ℕ → List ℕ
unfolding digits_within
digits n = digits_within (suc n) n

within_small : (most n : ℕ) → n < 10 → digits_within (suc most) n ≡ digit_byte n ∷ []
unfolding digits_within
within_small most n h = rw (lt-ltb n 10 h, digits_within)

within_large : (most n : ℕ) → 10 ≤ n → digits_within (suc most) n ≡ digits_within most (n / 10) ++ (digit_byte (n % 10) ∷ [])
unfolding digits_within
within_large most n h = rw (le-ltb n 10 h, digits_within)

-- any bound above the number gives the same
within_same : (most more n : ℕ) → n < most → n < more → digits_within most n ≡ digits_within more n
within_same zero more n h k = absurd (not-suc-le-zero h)
within_same (suc most) zero n h k = absurd (not-suc-le-zero k)
within_same (suc most) (suc more) n h k =
    ⊎_elim
    (λ large.
    cc (within_large most n large, within_large more n large, within_same most more (n / 10) (omega arith) (omega arith)))
    (λ small. cc (within_small most n small, within_small more n small))
    (le_or_lt 10 n)

-- the two equations that define it
pub digits_small : (n : ℕ) → n < 10 → digits n ≡ digit_byte n ∷ []
unfolding digits
digits_small n h = within_small n n h

pub digits_large : (n : ℕ) → 10 ≤ n → digits n ≡ digits (n / 10) ++ (digit_byte (n % 10) ∷ [])
unfolding digits
digits_large n h =
    within_large n n h
    ∙ ap (λ (l : List ℕ). l ++ (digit_byte (n % 10) ∷ [])) (within_same n (suc (n / 10)) (n / 10) (omega arith) (omega arith))

-- what holds below ten, and of each number if it holds of its tenth part, holds of every number
pub by_tens {κ} : (P : ℕ → Type κ) → ((n : ℕ) → n < 10 → P n) → ((n : ℕ) → 10 ≤ n → P (n / 10) → P n) → (n : ℕ) → P n
by_tens P small large n = go (suc n) n (omega arith)
  where
    go : (most m : ℕ) → m < most → P m
    go zero m h = absurd (not-suc-le-zero h)
    go (suc most) m h = ⊎_elim (λ l. large m l (go most (m / 10) (omega arith))) (small m) (le_or_lt 10 m)

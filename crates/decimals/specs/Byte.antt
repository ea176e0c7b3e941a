-- A byte of a text, which counts as 0 past the end: so a byte that is not 0, and a digit, stand inside.
use Rattle.std.specs.Prelude.{Bool, true, ◌&&◌, List, ◌≡◌, ℕ, ◌≤◌, ◌<◌, leb, length, get_or}
use Rattle.std.proofs.Common.{⊎_elim, arith, leb-true, le-leb}
use Rattle.std.proofs.Math.ListN.{get_or-eq_default}
use Rattle.sequences.specs.Pick.{both}
use Rattle.sequences.specs.Range.{le_or_lt}

-- the byte of s at the place i
abbrev pub byte_at : List ℕ → ℕ → ℕ
byte_at s i = get_or s i 0

pub byte_past : (s : List ℕ) (i : ℕ) → length s ≤ i → byte_at s i ≡ 0
byte_past s i h = get_or-eq_default s 0 h

pub byte_inside : (s : List ℕ) (i : ℕ) → (byte_at s i ≡ 0 → ⊥) → i < length s
byte_inside s i h = ⊎_elim (λ past. absurd (h (byte_past s i past))) (λ l. l) (le_or_lt (length s) i)

-- a byte that is a digit
pub record IsDigit (b : ℕ) : Type 0 where
  pub low : 48 ≤ b
  pub high : b ≤ 57

-- the same as a test
abbrev pub digit_test : ℕ → Bool
digit_test b = leb 48 b && leb b 57

pub digit_passes : {b : ℕ} → IsDigit b → digit_test b ≡ true
digit_passes {b} d = cc (le-leb 48 b d.low, le-leb b 57 d.high)

pub digit_passed : (b : ℕ) → digit_test b ≡ true → IsDigit b
digit_passed b e =
    let (low, high) = both (leb 48 b) (leb b 57) e in
    record { low = leb-true 48 b low; high = leb-true b 57 high }

pub digit_inside : (s : List ℕ) (i : ℕ) → digit_test (byte_at s i) ≡ true → i < length s
digit_inside s i e =
    let d : IsDigit (byte_at s i) = digit_passed (byte_at s i) e in
    byte_inside s i (λ z. omega (arith, d.low))

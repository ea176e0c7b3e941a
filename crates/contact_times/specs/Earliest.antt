-- The place of the smallest of some numbers, on a tie the lowest.
use Rattle.std.specs.Prelude.{ℕ, zero, suc, ◌≤◌, ◌<◌, List, [], ◌∷◌, ◌≡◌, length, get_or}
use Rattle.std.proofs.Common.{arith}

abbrev pub number_at : List ℕ → ℕ → ℕ
number_at l q = get_or l q 0

pub record Earliest (l : List ℕ) (e : ℕ) : Type 0 where
  pub there : e < length l
  pub least : (q : ℕ) → q < length l → number_at l e ≤ number_at l q
  pub lowest : (q : ℕ) → q < length l → q < e → number_at l e < number_at l q

-- what holds of each place
pub below_three : (P : ℕ → Type 0) → P 0 → P 1 → P 2 → (q : ℕ) → q < 3 → P q
below_three P a b c zero h = a
below_three P a b c (suc zero) h = b
below_three P a b c (suc (suc zero)) h = c
below_three P a b c (suc (suc (suc q))) h = absurd (omega arith)

pub below_four : (P : ℕ → Type 0) → P 0 → P 1 → P 2 → P 3 → (q : ℕ) → q < 4 → P q
below_four P a b c d zero h = a
below_four P a b c d (suc zero) h = b
below_four P a b c d (suc (suc zero)) h = c
below_four P a b c d (suc (suc (suc zero))) h = d
below_four P a b c d (suc (suc (suc (suc q)))) h = absurd (omega arith)

module _ (a b c : ℕ) where
  abbrev three : List ℕ
  three = a ∷ b ∷ c ∷ []

  pub three_by : (e x : ℕ) → e < 3 → number_at three e ≡ x → x ≤ a → x ≤ b → x ≤ c → (0 < e → x < a) → (1 < e → x < b) → Earliest three e
  three_by e x t is p q r s u =
      record {
        there = t;
        least = below_three (λ i. number_at three e ≤ number_at three i) (rw is p) (rw is q) (rw is r);
        lowest = below_three (λ i. i < e → number_at three e < number_at three i) (λ h. rw is (s h)) (λ h. rw is (u h)) (λ h. absurd (omega arith));
      }

module _ (a b c d : ℕ) where
  abbrev fours : List ℕ
  fours = a ∷ b ∷ c ∷ d ∷ []

  pub four_by : (e x : ℕ) → e < 4 → number_at fours e ≡ x → x ≤ a → x ≤ b → x ≤ c → x ≤ d → (0 < e → x < a) → (1 < e → x < b) → (2 < e → x < c) → Earliest fours e
  four_by e x t is p q r r' s u w =
      record {
        there = t;
        least = below_four (λ i. number_at fours e ≤ number_at fours i) (rw is p) (rw is q) (rw is r) (rw is r');
        lowest = below_four (λ i. i < e → number_at fours e < number_at fours i) (λ h. rw is (s h)) (λ h. rw is (u h)) (λ h. rw is (w h)) (λ h. absurd (omega arith));
      }

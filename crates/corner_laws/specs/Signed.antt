-- Numbers with the sign of their simplex, plus in the first and minus in the second: the five equations then say that five sums over all
-- corners are 0.
use Rattle.std.specs.Prelude.{ℕ, suc, ◌+◌, ◌≡◌, refl, Bool, true, false, List, [], ◌∷◌, ◌++◌, ℤ, pos, negsuc, neg_ℤ, ◌+ℤ◌, ◌-ℤ◌, ◌*ℤ◌, ltb, length}
use Rattle.std.proofs.Common.{zero-add, suc-add, sym, ◌∙◌, ap}
use Rattle.std.proofs.Math.IntN.{neg_ℤ-neg_ℤ}
use Rattle.std.proofs.Math.Dec.{leb-zero, leb-suc-zero, leb-suc-suc}
use Rattle.whole.specs.Laws.{minus_self, equal_of_minus}
use Rattle.whole.specs.Quote.{quotes, ring}
use Rattle.meaning.specs.Pieces.{Event}
use Rattle.meaning.specs.Equations.{total}
use Rattle.theory.specs.Totals.{weights_same, weights_times}
use Rattle.corner_laws.specs.Level.{Measure, read, Level, balanced_by, sum_of}

-- a number as it is, or with the other sign
unfoldable pub sided : Bool → ℤ → ℤ
sided true z = z
sided false z = neg_ℤ z

pub sided_twice : (c : Bool) (z : ℤ) → sided c (sided c z) ≡ z
unfolding sided
sided_twice true z = refl
sided_twice false z = neg_ℤ-neg_ℤ z

pub zero_sided : (c : Bool) → sided c (pos 0) ≡ pos 0
unfolding sided
zero_sided true = refl
zero_sided false = refl

pub sided_zero : (c : Bool) {z : ℤ} → sided c z ≡ pos 0 → z ≡ pos 0
sided_zero c {z} h = sym (sided_twice c z) ∙ ap (sided c) h ∙ zero_sided c

-- the first m keep their sign
abbrev pub signed : ℕ → (ℕ → ℤ) → ℕ → ℤ
signed m w i = sided (ltb i m) (w i)

pub signed_twice : (m : ℕ) (w : ℕ → ℤ) (i : ℕ) → signed m (signed m w) i ≡ w i
signed_twice m w i = sided_twice (ltb i m) (w i)

turned : (z : ℤ) → neg_ℤ z ≡ negsuc 0 *ℤ z
turned z = ring (z ∷ []) (search quotes depth 40 fits 9000) refl

less : (z : ℤ) → negsuc 0 *ℤ z ≡ pos 0 -ℤ z
less z = ring (z ∷ []) (search quotes depth 40 fits 9000) refl

more : (p s t : ℤ) → p +ℤ (s -ℤ t) ≡ (p +ℤ s) -ℤ t
more p s t = ring (p ∷ s ∷ t ∷ []) (search quotes depth 40 fits 9000) refl

total_signed : (f : Event → ℤ) (a b : List Event) (w : ℕ → ℤ) → total f (signed (length a) w) (a ++ b) ≡ total f w a -ℤ total f (λ i. w (length a + i)) b
unfolding total sided
total_signed f [] b w =
    weights_same f (signed 0 w) (λ i. negsuc 0 *ℤ w (0 + i)) b (λ i. rw (leb-suc-zero i, zero-add) (turned (w i)))
    ∙ weights_times (negsuc 0) f (λ i. w (0 + i)) b ∙ less (total f (λ i. w (0 + i)) b)
total_signed f (e ∷ a) b w =
    ap (λ c. sided c (w 0) *ℤ f e +ℤ total f (λ i. signed (suc (length a)) w (suc i)) (a ++ b)) (leb-suc-suc 0 (length a) ∙ leb-zero (length a))
    ∙ ap (λ z. w 0 *ℤ f e +ℤ z) (weights_same f (λ i. signed (suc (length a)) w (suc i)) (signed (length a) (λ i. w (suc i))) (a ++ b) (λ i. ap (λ c. sided c (w (suc i))) (leb-suc-suc (suc i) (length a))))
    ∙ ap (λ z. w 0 *ℤ f e +ℤ z) (total_signed f a b (λ i. w (suc i)))
    ∙ more (w 0 *ℤ f e) (total f (λ i. w (suc i)) a) (total f (λ i. w (suc (length a + i))) b)
    ∙ ap (λ z. w 0 *ℤ f e +ℤ total f (λ i. w (suc i)) a -ℤ z) (weights_same f (λ i. w (suc (length a + i))) (λ i. w (suc (length a) + i)) b (λ i. ap w (sym (suc-add (length a) i))))

-- five sums over all corners are 0
pub record Nought (l : List Event) (n : ℕ → ℤ) : Type 0 where
  pub sum : (m : Measure) → total (read m) n l ≡ pos 0

module _ {a b : List Event} {w : ℕ → ℤ} where
  pub nought_of : Level a b w → Nought (a ++ b) (signed (length a) w)
  nought_of h = record { sum = λ m. total_signed (read m) a b w ∙ minus_self (sum_of h m) }

pub level_signed : (a b : List Event) {n : ℕ → ℤ} → Nought (a ++ b) n → Level a b (signed (length a) n)
level_signed a b {n} h = balanced_by
    (λ m. equal_of_minus _ _
    (sym (total_signed (read m) a b (signed (length a) n)) ∙ weights_same (read m) (signed (length a) (signed (length a) n)) n (a ++ b) (signed_twice (length a) n) ∙ h.sum m))

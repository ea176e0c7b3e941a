-- Rational numbers, as far as weights need them: whole numerators over positive denominators, their weighted sums, and the clearing of
-- denominators. A list of weights has one denominator N in common; over it the weighted sums are those of whole weights.
use Rattle.std.specs.Prelude.{◌≡◌, refl, ◌≢◌, ◌↔◌, List, [], ◌∷◌, ℕ, zero, suc, ◌*◌, ◌<◌, ℤ, pos, neg_ℤ, nat_abs, ◌+ℤ◌, ◌*ℤ◌, length}
use Rattle.std.proofs.Common.{ap, not-suc-le-zero, le_refl, mul-pos, arith}
use Rattle.std.proofs.Math.IntN.{zero-*ℤ}
use Rattle.whole.specs.Quote.{quotes, ring, combine, times}
use Rattle.whole.specs.Signs.{cancel, product_nonzero}
use Rattle.meaning.specs.Equations.{total}

pub record Fraction : Type 0 where
  pub over : ℤ
  pub under : ℕ
  pub positive : 0 < under

-- two fractions are one rational number
infix 50 ◌≃◌
pub record ◌≃◌ (a b : Fraction) : Type 0 where
  pub crosswise : a.over *ℤ pos b.under ≡ b.over *ℤ pos a.under

abbrev pub whole : ℤ → Fraction
whole z = record { over = z; under = 1; positive = le_refl 1 }

abbrev pub plus_of : Fraction → Fraction → Fraction
plus_of a b =
    record {
      over = a.over *ℤ pos b.under +ℤ b.over *ℤ pos a.under;
      under = a.under * b.under;
      positive = mul-pos a.positive b.positive;
    }

abbrev pub times_of : Fraction → ℤ → Fraction
times_of a z = record { over = a.over *ℤ z; under = a.under; positive = a.positive }

-- the weighted sum of f over the points, the weight of the i-th being w i
unfoldable pub total_of {ℓ} : {A : Type ℓ} → (A → ℤ) → (ℕ → Fraction) → List A → Fraction
total_of f w [] = whole (pos 0)
total_of f w (e ∷ es) = plus_of (times_of (w zero) (f e)) (total_of f (λ i. w (suc i)) es)

-- ---- weights over one denominator

-- each of the first n weights is the whole number s i over N
pub record Over (N : ℕ) (s : ℕ → ℤ) (w : ℕ → Fraction) (n : ℕ) : Type 0 where
  pub each : (i : ℕ) → i < n → s i *ℤ pos (w i).under ≡ (w i).over *ℤ pos N

-- their weighted sum is that of the whole weights, over N
sum_step : (s o d f S D t N : ℤ) → s *ℤ d ≡ o *ℤ N → S *ℤ N ≡ t *ℤ D → (o *ℤ f *ℤ D +ℤ S *ℤ d) *ℤ N ≡ (s *ℤ f +ℤ t) *ℤ (d *ℤ D)
sum_step s o d f S D t N h k =
    combine (s ∷ o ∷ d ∷ f ∷ S ∷ D ∷ t ∷ N ∷ []) (times (neg_ℤ (f *ℤ D)) h ∷ times d k ∷ []) (search quotes depth 40 fits 9000) refl

pub total_over {ℓ} : {A : Type ℓ} (f : A → ℤ) {N : ℕ} {s : ℕ → ℤ} {w : ℕ → Fraction} (l : List A) → Over N s w (length l) → (total_of f w l).over *ℤ pos N ≡ total f s l *ℤ pos (total_of f w l).under
unfolding total total_of
total_over f {N} [] h = zero-*ℤ (pos N)
total_over f {N} {s} {w} (e ∷ es) h =
    sum_step (s 0) (w 0).over (pos (w 0).under) (f e) rest.over (pos rest.under) (total f (λ i. s (suc i)) es) (pos N) (h.each 0 (omega arith))
    (total_over f es (record { each = λ i k. h.each (suc i) (omega arith) }))
  where
    rest : Fraction
    rest = total_of f (λ i. w (suc i)) es

-- any weights have a denominator in common
pub record Cleared (w : ℕ → Fraction) (n : ℕ) : Type 0 where
  pub common : ℕ
  pub positive : 0 < common
  pub shares : ℕ → ℤ
  pub is : Over common shares w n

pub cleared : (w : ℕ → Fraction) (n : ℕ) → Cleared w n
cleared w zero = record { common = 1; positive = le_refl 1; shares = λ i. pos 0; is = record { each = λ i h. absurd (not-suc-le-zero h) } }
cleared w (suc n) = go (cleared (λ i. w (suc i)) n)
  where
    own : (o C d : ℤ) → o *ℤ C *ℤ d ≡ o *ℤ (d *ℤ C)
    own o C d = ring (o ∷ C ∷ d ∷ []) (search quotes depth 40 fits 9000) refl

    others : (s d e o C : ℤ) → s *ℤ e ≡ o *ℤ C → s *ℤ d *ℤ e ≡ o *ℤ (d *ℤ C)
    others s d e o C h = combine (s ∷ d ∷ e ∷ o ∷ C ∷ []) (times d h ∷ []) (search quotes depth 40 fits 9000) refl

    go : Cleared (λ i. w (suc i)) n → Cleared w (suc n)
    go c = record { common = (w 0).under * c.common; positive = mul-pos (w 0).positive c.positive; shares = share_of; is = record { each = right } }
      where
        share_of : ℕ → ℤ
        share_of zero = (w 0).over *ℤ pos c.common
        share_of (suc i) = c.shares i *ℤ pos (w 0).under

        right : (i : ℕ) → i < suc n → share_of i *ℤ pos (w i).under ≡ (w i).over *ℤ pos ((w 0).under * c.common)
        right zero h = own (w 0).over (pos c.common) (pos (w 0).under)
        right (suc i) h = others (c.shares i) (pos (w 0).under) (pos (w (suc i)).under) (w (suc i)).over (pos c.common) (c.is.each i (omega arith))

-- ---- equal sums

module _ (o d o' d' N t t' : ℤ) (h : o *ℤ N ≡ t *ℤ d) (h' : o' *ℤ N ≡ t' *ℤ d') where
  abbrev letters : List ℤ
  letters = o ∷ d ∷ o' ∷ d' ∷ N ∷ t ∷ t' ∷ []

  whole_same : d ≢ pos 0 → d' ≢ pos 0 → o *ℤ d' ≡ o' *ℤ d → t ≡ t'
  whole_same m m' e = cancel (d *ℤ d') t t' (product_nonzero d d' m m')
      (combine letters (times (neg_ℤ d') h ∷ times d h' ∷ times N e ∷ []) (search quotes depth 40 fits 9000) refl)

  fractions_same : N ≢ pos 0 → t ≡ t' → o *ℤ d' ≡ o' *ℤ d
  fractions_same m e = cancel N (o *ℤ d') (o' *ℤ d) m
      (combine letters (times d' h ∷ times (neg_ℤ d) h' ∷ times (d *ℤ d') e ∷ []) (search quotes depth 40 fits 9000) refl)

pub nonzero : {n : ℕ} → 0 < n → pos n ≢ pos 0
nonzero {n} h e = let z : n ≡ 0 = ap nat_abs e in omega arith

-- fractions that are t and t' over N are equal exactly when t and t' are
pub equal_over : (S S' : Fraction) {N : ℕ} (t t' : ℤ) → 0 < N → S.over *ℤ pos N ≡ t *ℤ pos S.under → S'.over *ℤ pos N ≡ t' *ℤ pos S'.under → (S ≃ S') ↔ (t ≡ t')
equal_over S S' {N} t t' n h h' = (
  λ e. whole_same S.over (pos S.under) S'.over (pos S'.under) (pos N) t t' h h' (nonzero S.positive) (nonzero S'.positive) e.crosswise,
  λ e. record { crosswise = fractions_same S.over (pos S.under) S'.over (pos S'.under) (pos N) t t' h h' (nonzero n) e },
)

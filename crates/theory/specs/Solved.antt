-- The sign law. Two lists of points are solved by numbers that balance, sum to D, and to which all weights that balance are
-- proportional. Where D is not 0 the lists then touch exactly when every one of these numbers is 0 or has the sign of D; the
-- weights are their sizes.
use Rattle.std.specs.Prelude.{ℕ, zero, suc, ◌<◌, ◌≡◌, refl, ◌≢◌, ◌↔◌, List, [], ◌∷◌, ℤ, pos, negsuc, nat_abs, ◌+ℤ◌, ◌*ℤ◌, length, ◌≤ℤ◌}
use Rattle.std.proofs.Common.{zero-le, arith, sym, ◌∙◌, ap, le→leb, lt→ltb}
use Rattle.std.proofs.Math.IntN.{*ℤ-zero}
use Rattle.std.specs.Int.Signed.{le_z_yes, lt_z_yes}
use Rattle.whole.specs.Laws.{*ℤ_idl}
use Rattle.whole.specs.Signs.{Sgn, positive, nought, negative, sgn, Agrees, none, alike, sign_transfer, nat_abs_positive}
use Rattle.meaning.specs.Pieces.{Event}
use Rattle.meaning.specs.Equations.{one, x_of, y_of, z_of, time_of, total, Balanced, Touch}
use Rattle.theory.specs.Totals.{weights_times}

-- D is the common factor of the solution, du and dv its numbers for the first and for the second list
pub record Solved (a b : List Event) (D : ℤ) (du dv : ℕ → ℤ) : Type 0 where
  pub balanced : Balanced a b du dv
  pub sum : total one du a ≡ D
  pub first : (u v : ℕ → ℤ) → Balanced a b u v → (i : ℕ) → i < length a → u i *ℤ D ≡ total one u a *ℤ du i
  pub second : (u v : ℕ → ℤ) → Balanced a b u v → (i : ℕ) → i < length b → v i *ℤ D ≡ total one u a *ℤ dv i

-- the number of each point that is there is 0 or has the sign of D
pub record AllAgree {ℓ} {A : Type ℓ} (D : ℤ) (w : ℕ → ℤ) (l : List A) : Type 0 where
  pub each : (i : ℕ) → i < length l → Agrees D (w i)

-- only the weights of points that are there count
pub weights_there {ℓ} : {A : Type ℓ} (f : A → ℤ) (u v : ℕ → ℤ) (l : List A) → ((i : ℕ) → i < length l → u i ≡ v i) → total f u l ≡ total f v l
unfolding total
weights_there f u v [] h = refl
weights_there f u v (a ∷ l) h =
    ap (λ w. w *ℤ f a +ℤ total f (λ i. u (suc i)) l) (h 0 (omega arith))
    ∙ ap (λ s. v 0 *ℤ f a +ℤ s) (weights_there f (λ i. u (suc i)) (λ i. v (suc i)) l (λ i k. h (suc i) (omega arith)))

-- 1, 0 or -1
abbrev pub unit_of : Sgn → ℤ
unit_of positive = pos 1
unit_of nought = pos 0
unit_of negative = negsuc 0

pub size_is : (d e : ℤ) → Agrees d e → pos (nat_abs e) ≡ unit_of (sgn d) *ℤ e
size_is d e (none p) = ap (λ z. pos (nat_abs z)) p ∙ sym (ap (λ z. unit_of (sgn d) *ℤ z) p ∙ *ℤ-zero (unit_of (sgn d)))
size_is d e (alike p) = go e ∙ ap (λ s. unit_of s *ℤ e) p
  where
    go : (z : ℤ) → pos (nat_abs z) ≡ unit_of (sgn z) *ℤ z
    go (pos zero) = refl
    go (pos (suc n)) = sym (*ℤ_idl (pos (suc n)))
    go (negsuc n) = ap pos (omega arith)

pub nonneg : (k : ℕ) → pos 0 ≤ℤ pos k
nonneg k = le_z_yes (le→leb 0 k zero-le)

-- ---- sizes as weights

-- the sizes of numbers that agree with D are these numbers times one unit, so they balance if the numbers do
sized : {D : ℤ} (f : Event → ℤ) (w : ℕ → ℤ) (l : List Event) → AllAgree D w l → total f (λ i. pos (nat_abs (w i))) l ≡ unit_of (sgn D) *ℤ total f w l
sized {D} f w l h =
    weights_there f (λ i. pos (nat_abs (w i))) (λ i. unit_of (sgn D) *ℤ w i) l (λ i k. size_is D (w i) (h.each i k))
    ∙ weights_times (unit_of (sgn D)) f w l

module _ {a b : List Event} {D : ℤ} {du dv : ℕ → ℤ} (p : AllAgree D du a) (q : AllAgree D dv b) where
  pub sizes_balance : Balanced a b du dv → Balanced a b (λ i. pos (nat_abs (du i))) (λ i. pos (nat_abs (dv i)))
  sizes_balance h = record {
    sums = same one h.sums;
    xs = same x_of h.xs;
    ys = same y_of h.ys;
    zs = same z_of h.zs;
    times = same time_of h.times;
  }
    where
      same : (f : Event → ℤ) → total f du a ≡ total f dv b → total f (λ i. pos (nat_abs (du i))) a ≡ total f (λ i. pos (nat_abs (dv i))) b
      same f e = sized f du a p ∙ ap (λ z. unit_of (sgn D) *ℤ z) e ∙ sym (sized f dv b q)

  pub touch_of_sizes : D ≢ pos 0 → Balanced a b du dv → total one du a ≡ D → Touch a b
  touch_of_sizes n h e = record {
    u = λ i. nat_abs (du i);
    v = λ i. nat_abs (dv i);
    balanced = sizes_balance h;
    some = rw whole (lt_z_yes (lt→ltb 0 (nat_abs D) (nat_abs_positive D n)));
  }
    where
      whole : total one (λ i. pos (nat_abs (du i))) a ≡ pos (nat_abs D)
      whole = sized one du a p ∙ ap (λ z. unit_of (sgn D) *ℤ z) e ∙ sym (size_is D D (alike refl))

-- ---- the sign law

module _ {a b : List Event} {D : ℤ} {du dv : ℕ → ℤ} (s : Solved a b D du dv) (n : D ≢ pos 0) where
  pub agree_of_touch : Touch a b → AllAgree D du a × AllAgree D dv b
  agree_of_touch t = (
    record { each = λ i h. (sign_transfer (pos (t.u i)) D _ (du i) (s.first _ _ t.balanced i h) t.some n).0 (nonneg (t.u i)) },
    record { each = λ i h. (sign_transfer (pos (t.v i)) D _ (dv i) (s.second _ _ t.balanced i h) t.some n).0 (nonneg (t.v i)) },
  )

  pub touch_is : Touch a b ↔ (AllAgree D du a × AllAgree D dv b)
  touch_is = (agree_of_touch, λ h. touch_of_sizes h.0 h.1 n s.balanced s.sum)

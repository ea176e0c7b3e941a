-- What bounds every value on a list bounds their weighted sum. So lists whose values stand apart have no weights that bring them together: the
-- cull of pieces and the cull of straight motion are both this one law.
use Rattle.std.specs.Prelude.{◌≡◌, ◌≢◌, ℕ, suc, ℤ, pos, ◌+ℤ◌, ◌-ℤ◌, ◌*ℤ◌, ◌≤ℤ◌, ◌<ℤ◌}
use mathlib.Core.List.{List, [], ◌∷◌, map}
use Rattle.std.proofs.Common.{arith}
use Rattle.std.specs.Int.Signed.{≤ℤ_refl}
use Rattle.whole.specs.Quote.{quotes}
use Rattle.whole.specs.Order.{le, lt, of_le, of_lt, ord, nn_mul, parts_le}
use Rattle.meaning.specs.Equations.{total}
use Rattle.theory.specs.Totals.{total_constant}

-- every element of the list passes
abbrev pub Every {ℓ} : {A : Type ℓ} → (A → Type 0) → List A → Type 0
Every P [] = Unit {0}
Every P (a ∷ l) = P a × Every P l

pub every_map {ℓ κ} : {A : Type ℓ} {B : Type κ} (P : B → Type 0) (g : A → B) (l : List A) → Every (λ a. P (g a)) l → Every P (map g l)
every_map P g [] h = tt
every_map P g (a ∷ l) h = (h.0, every_map P g l h.1)

pub every_imp {ℓ} : {A : Type ℓ} (P Q : A → Type 0) → ((a : A) → P a → Q a) → (l : List A) → Every P l → Every Q l
every_imp P Q i [] h = tt
every_imp P Q i (a ∷ l) h = (i a h.0, every_imp P Q i l h.1)

pub weight_nonnegative : (n : ℕ) → pos 0 ≤ℤ pos n
weight_nonnegative n = parts_le (omega arith)

pub weighted_rises : (w f g s t : ℤ) → pos 0 ≤ℤ w → f ≤ℤ g → s ≤ℤ t → (w *ℤ f +ℤ s) ≤ℤ (w *ℤ g +ℤ t)
weighted_rises w f g s t p q r =
    let e : List ℤ = w ∷ f ∷ g ∷ s ∷ t ∷ [] in
    let d : pos 0 ≤ℤ (g -ℤ f) = le e (search quotes depth 40 fits 9000) (omega (arith, ord)) in
    let m = of_le e (search quotes depth 40 fits 9000) (nn_mul w (g -ℤ f) p d) in
    le e (search quotes depth 40 fits 9000) (omega (arith, ord))

pub times_rises : (k x y : ℤ) → pos 0 <ℤ k → x <ℤ y → (k *ℤ x) <ℤ (k *ℤ y)
times_rises k x y p q =
    let e : List ℤ = k ∷ x ∷ y ∷ [] in
    let c : pos 0 ≤ℤ (y -ℤ x -ℤ pos 1) = le e (search quotes depth 40 fits 9000) (omega (arith, ord)) in
    let d : pos 0 ≤ℤ k = omega (arith, ord) in
    let m = of_le e (search quotes depth 40 fits 9000) (nn_mul k (y -ℤ x -ℤ pos 1) d c) in
    lt e (search quotes depth 40 fits 9000) (omega (arith, ord))

squeezed : (h k s m : ℤ) → h <ℤ k → pos 0 <ℤ s → m ≤ℤ (h *ℤ s) → ¬ ((k *ℤ s) ≤ℤ m)
squeezed h k s m p q r t =
    let e : List ℤ = h ∷ k ∷ s ∷ m ∷ [] in
    let b = of_lt e (search quotes depth 40 fits 9000) (times_rises s h k q p) in
    let c = of_le e (search quotes depth 40 fits 9000) r in
    let d = of_le e (search quotes depth 40 fits 9000) t in
    omega arith

module _ {ℓ} {A : Type ℓ} where
  pub total_rises : (f g : A → ℤ) (w : ℕ → ℕ) (l : List A) → Every (λ a. f a ≤ℤ g a) l → total f (λ i. pos (w i)) l ≤ℤ total g (λ i. pos (w i)) l
  unfolding total
  total_rises f g w [] p = ≤ℤ_refl (pos 0)
  total_rises f g w (a ∷ l) p =
      weighted_rises (pos (w 0)) (f a) (g a) _ _ (weight_nonnegative (w 0)) p.0 (total_rises f g (λ i. w (suc i)) l p.1)

  pub below : (f : A → ℤ) (h : ℤ) (w : ℕ → ℕ) (l : List A) → Every (λ a. f a ≤ℤ h) l → total f (λ i. pos (w i)) l ≤ℤ (h *ℤ total (λ a. pos 1) (λ i. pos (w i)) l)
  below f h w l p = rw (← total_constant) (total_rises f (λ a. h) w l p)

  pub above : (f : A → ℤ) (h : ℤ) (w : ℕ → ℕ) (l : List A) → Every (λ a. h ≤ℤ f a) l → (h *ℤ total (λ a. pos 1) (λ i. pos (w i)) l) ≤ℤ total f (λ i. pos (w i)) l
  above f h w l p = rw (← total_constant) (total_rises (λ a. h) f w l p)

  -- f is at most h on the one list and at least k on the other, and h is below k
  pub kept_apart : (f : A → ℤ) (h k : ℤ) (a b : List A) (u v : ℕ → ℕ) → Every (λ p. f p ≤ℤ h) a → Every (λ p. k ≤ℤ f p) b → h <ℤ k →
      pos 0 <ℤ total (λ p. pos 1) (λ i. pos (u i)) a → total (λ p. pos 1) (λ i. pos (u i)) a ≡ total (λ p. pos 1) (λ i. pos (v i)) b →
      total f (λ i. pos (u i)) a ≢ total f (λ i. pos (v i)) b
  kept_apart f h k a b u v p q r some sums same = squeezed h k _ _ r some (below f h u a p) (rw (sums, same) (above f k v b q))

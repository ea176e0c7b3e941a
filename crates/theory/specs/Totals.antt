-- Laws of the weighted sum `total`, over points of any kind: it is linear in what is summed and linear in the weights.
use Rattle.std.specs.Prelude.{◌≡◌, ℕ, suc, ◌+◌, ℤ, pos, ◌+ℤ◌, ◌*ℤ◌, length}
use Rattle.std.proofs.Math.Path.{refl, sym, ap, fun_ext}
use Rattle.std.proofs.Common.{◌∙◌, suc-add, zero-add}
use mathlib.Core.List.{List, [], ◌∷◌, ◌++◌, map}
use Rattle.std.proofs.Math.IntN.{+ℤ_idl, +ℤ_assoc, *ℤ-zero}
use Rattle.whole.specs.Laws.{*ℤ_idr}
use Rattle.whole.specs.Quote.{quotes, ring}
use Rattle.meaning.specs.Equations.{total}

add_in : (w f g s t : ℤ) → w *ℤ (f +ℤ g) +ℤ (s +ℤ t) ≡ w *ℤ f +ℤ s +ℤ (w *ℤ g +ℤ t)
add_in w f g s t = ring (w ∷ f ∷ g ∷ s ∷ t ∷ []) (search quotes depth 40 fits 9000) refl

times_in : (k w f s : ℤ) → w *ℤ (k *ℤ f) +ℤ k *ℤ s ≡ k *ℤ (w *ℤ f +ℤ s)
times_in k w f s = ring (k ∷ w ∷ f ∷ s ∷ []) (search quotes depth 40 fits 9000) refl

add_weight : (u v f s t : ℤ) → (u +ℤ v) *ℤ f +ℤ (s +ℤ t) ≡ u *ℤ f +ℤ s +ℤ (v *ℤ f +ℤ t)
add_weight u v f s t = ring (u ∷ v ∷ f ∷ s ∷ t ∷ []) (search quotes depth 40 fits 9000) refl

times_weight : (k w f s : ℤ) → (k *ℤ w) *ℤ f +ℤ k *ℤ s ≡ k *ℤ (w *ℤ f +ℤ s)
times_weight k w f s = ring (k ∷ w ∷ f ∷ s ∷ []) (search quotes depth 40 fits 9000) refl

module _ {ℓ} {A : Type ℓ} where
  -- ---- in what is summed

  pub total_same : (f g : A → ℤ) (w : ℕ → ℤ) (l : List A) → ((a : A) → f a ≡ g a) → total f w l ≡ total g w l
  total_same f g w l h = ap (λ (k : A → ℤ). total k w l) (fun_ext h)

  pub total_plus : (f g : A → ℤ) (w : ℕ → ℤ) (l : List A) → total (λ a. f a +ℤ g a) w l ≡ total f w l +ℤ total g w l
  unfolding total
  total_plus f g w [] = refl
  total_plus f g w (a ∷ l) =
      ap (λ s. w 0 *ℤ (f a +ℤ g a) +ℤ s) (total_plus f g (λ i. w (suc i)) l) ∙ add_in (w 0) (f a) (g a) _ _

  pub total_times : (k : ℤ) (f : A → ℤ) (w : ℕ → ℤ) (l : List A) → total (λ a. k *ℤ f a) w l ≡ k *ℤ total f w l
  unfolding total
  total_times k f w [] = sym (*ℤ-zero k)
  total_times k f w (a ∷ l) =
      ap (λ s. w 0 *ℤ (k *ℤ f a) +ℤ s) (total_times k f (λ i. w (suc i)) l) ∙ times_in k (w 0) (f a) _

  pub total_constant : (k : ℤ) (w : ℕ → ℤ) (l : List A) → total (λ a. k) w l ≡ k *ℤ total (λ a. pos 1) w l
  total_constant k w l = total_same (λ a. k) (λ a. k *ℤ pos 1) w l (λ a. sym (*ℤ_idr k)) ∙ total_times k (λ a. pos 1) w l

  -- ---- in the weights

  pub weights_same : (f : A → ℤ) (u v : ℕ → ℤ) (l : List A) → ((i : ℕ) → u i ≡ v i) → total f u l ≡ total f v l
  weights_same f u v l h = ap (λ (w : ℕ → ℤ). total f w l) (fun_ext h)

  pub weights_plus : (f : A → ℤ) (u v : ℕ → ℤ) (l : List A) → total f (λ i. u i +ℤ v i) l ≡ total f u l +ℤ total f v l
  unfolding total
  weights_plus f u v [] = refl
  weights_plus f u v (a ∷ l) =
      ap (λ s. (u 0 +ℤ v 0) *ℤ f a +ℤ s) (weights_plus f (λ i. u (suc i)) (λ i. v (suc i)) l)
      ∙ add_weight (u 0) (v 0) (f a) _ _

  pub weights_times : (k : ℤ) (f : A → ℤ) (w : ℕ → ℤ) (l : List A) → total f (λ i. k *ℤ w i) l ≡ k *ℤ total f w l
  unfolding total
  weights_times k f w [] = sym (*ℤ-zero k)
  weights_times k f w (a ∷ l) =
      ap (λ s. (k *ℤ w 0) *ℤ f a +ℤ s) (weights_times k f (λ i. w (suc i)) l) ∙ times_weight k (w 0) (f a) _

  -- ---- over lists

  pub total_append : (f : A → ℤ) (w : ℕ → ℤ) (l m : List A) → total f w (l ++ m) ≡ total f w l +ℤ total f (λ i. w (length l + i)) m
  unfolding total
  total_append f w [] m = simp (zero-add, +ℤ_idl)
  total_append f w (a ∷ l) m =
      ap (λ s. w 0 *ℤ f a +ℤ s) (total_append f (λ i. w (suc i)) l m) ∙ simp (+ℤ_assoc, suc-add)

pub total_map {ℓ κ} : {A : Type ℓ} {B : Type κ} (f : B → ℤ) (g : A → B) (w : ℕ → ℤ) (l : List A) → total f w (map g l) ≡ total (λ a. f (g a)) w l
unfolding total
total_map f g w [] = refl
total_map f g w (a ∷ l) = ap (λ s. w 0 *ℤ f (g a) +ℤ s) (total_map f g (λ i. w (suc i)) l)

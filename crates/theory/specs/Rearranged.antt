-- Lists with their elements in another order: weights are carried along, and the determinant changes its sign at most.
use Rattle.std.specs.Prelude.{◌≡◌, refl, List, [], ◌∷◌, ◌++◌, map, ℕ, zero, suc, ℤ, nat_abs, ◌+ℤ◌, ◌*ℤ◌, length}
use Rattle.std.proofs.Common.{sym, ◌∙◌, append-nil}
use Rattle.std.proofs.Math.Path.{ap}
use Rattle.std.proofs.Math.IntN.{pos}
use Rattle.whole.specs.Laws.{swap_first}
use Rattle.whole.specs.Signs.{nat_abs_neg}
use Rattle.meaning.specs.Equations.{total, determinant}
use Rattle.theory.specs.Bounds.{Every}
use Rattle.theory.specs.Determinants.{Exchanged, front, behind, columns_exchanged}

-- neighbours change places, any number of times
pub data Rearranged {ℓ} {A : Type ℓ} : List A → List A → Type ℓ where
  unmoved : {l : List A} → Rearranged l l
  moved : {l m n : List A} → Exchanged l m → Rearranged m n → Rearranged l n

module _ {ℓ} {A : Type ℓ} where
  pub exchanged_back : {k l : List A} → Exchanged k l → Exchanged l k
  exchanged_back front = front
  exchanged_back (behind e) = behind (exchanged_back e)

  pub also : {k l m : List A} → Rearranged k l → Rearranged l m → Rearranged k m
  also unmoved s = s
  also (moved e r) s = moved e (also r s)

  pub rearranged_back : {k l : List A} → Rearranged k l → Rearranged l k
  rearranged_back unmoved = unmoved
  rearranged_back (moved e r) = also (rearranged_back r) (moved (exchanged_back e) unmoved)

  pub rearranged_behind : (a : A) {k l : List A} → Rearranged k l → Rearranged (a ∷ k) (a ∷ l)
  rearranged_behind a unmoved = unmoved
  rearranged_behind a (moved e r) = moved (behind e) (rearranged_behind a r)

  pub rearranged_after : (p : List A) {k l : List A} → Rearranged k l → Rearranged (p ++ k) (p ++ l)
  rearranged_after [] r = r
  rearranged_after (a ∷ p) r = rearranged_behind a (rearranged_after p r)

  -- one element goes through a list, and a list through a list
  pub passes : (a : A) (p l : List A) → Rearranged (a ∷ (p ++ l)) (p ++ (a ∷ l))
  passes a [] l = unmoved
  passes a (b ∷ p) l = moved front (rearranged_behind b (passes a p l))

  pub change_places : (k l : List A) → Rearranged (k ++ l) (l ++ k)
  change_places [] l = rw append-nil unmoved
  change_places (a ∷ k) l = also (rearranged_behind a (change_places k l)) (passes a l k)

  pub rearranged_before : (p : List A) {k l : List A} → Rearranged k l → Rearranged (k ++ p) (l ++ p)
  rearranged_before p unmoved = unmoved
  rearranged_before p (moved e r) = moved (before e) (rearranged_before p r)
    where
      before : {k l : List A} → Exchanged k l → Exchanged (k ++ p) (l ++ p)
      before front = front
      before (behind e) = behind (before e)

  pub exchanged_length : {k l : List A} → Exchanged k l → length k ≡ length l
  exchanged_length front = refl
  exchanged_length (behind e) = ap suc (exchanged_length e)

  pub every_exchanged : (P : A → Type 0) {k l : List A} → Exchanged k l → Every P k → Every P l
  every_exchanged P front h = (h.1.0, (h.0, h.1.1))
  every_exchanged P (behind e) h = (h.0, every_exchanged P e h.1)

  -- ---- the determinant

  pub determinant_rearranged : (rows : List (A → ℤ)) {k l : List A} → Rearranged k l → length k ≡ length rows → nat_abs (determinant rows k) ≡ nat_abs (determinant rows l)
  determinant_rearranged rows unmoved h = refl
  determinant_rearranged rows (moved {l = k} {m = l} e r) h =
      ap nat_abs (columns_exchanged rows k l e h).is ∙ nat_abs_neg (determinant rows l) ∙ determinant_rearranged rows r (sym (exchanged_length e) ∙ h)

  -- ---- the weights

  pub carried : {k l : List A} → Exchanged k l → (ℕ → ℕ) → ℕ → ℕ
  carried front w zero = w 1
  carried front w (suc zero) = w 0
  carried front w (suc (suc i)) = w (suc (suc i))
  carried (behind e) w zero = w 0
  carried (behind e) w (suc i) = carried e (λ i. w (suc i)) i

  pub carried_total : (f : A → ℤ) {k l : List A} (e : Exchanged k l) (w : ℕ → ℕ) → total f (λ i. pos (w i)) k ≡ total f (λ i. pos (carried e w i)) l
  unfolding total carried
  carried_total f (front {a} {b} {l = l}) w = swap_first (pos (w 0) *ℤ f a) (pos (w 1) *ℤ f b) _
  carried_total f (behind {a = a} e) w = ap (λ n. pos (w 0) *ℤ f a +ℤ n) (carried_total f e (λ i. w (suc i)))

pub rearranged_map {ℓ κ} : {A : Type ℓ} {B : Type κ} (g : A → B) {k l : List A} → Rearranged k l → Rearranged (map g k) (map g l)
rearranged_map g unmoved = unmoved
rearranged_map {A = A} g (moved e r) = moved (mapped e) (rearranged_map g r)
  where
    mapped : {k l : List A} → Exchanged k l → Exchanged (map g k) (map g l)
    mapped front = front
    mapped (behind e) = behind (mapped e)

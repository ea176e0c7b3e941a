-- A list written out element by element, each as one number: the number of an element stands in the element's place.
use mathlib.Core.List.Memᴰ
use mathlib.Core.List.{List, [], ◌∷◌, ◌++◌, map, Memᴰ}
use Rattle.std.proofs.Common.{⊎_elim, ap, le_of_suc-le-suc, not-suc-le-zero}
use Rattle.std.specs.Prelude.{◌≡◌, refl, ℕ, zero, suc, ◌<◌, length, get_or}
use Rattle.sequences.specs.Rising.{Rising}

module _ {ℓ κ} {A : Type ℓ} {B : Type κ} (f : A → B) where
  pub map_append : (l k : List A) → map f (l ++ k) ≡ map f l ++ map f k
  map_append [] k = refl
  map_append (a ∷ l) k = ap (λ (r : List B). f a ∷ r) (map_append l k)

  pub map_at : (l : List A) (i : ℕ) (d : A) (e : B) → i < length l → get_or (map f l) i e ≡ f (get_or l i d)
  map_at [] i d e h = absurd (not-suc-le-zero h)
  map_at (a ∷ l) zero d e h = refl
  map_at (a ∷ l) (suc i) d e h = map_at l i d e (le_of_suc-le-suc h)

  -- what stands in it is made of an element
  pub map_from : (l : List A) {b : B} → Memᴰ b (map f l) → (a : A) × Memᴰ a l × (b ≡ f a)
  map_from [] m = absurd (Memᴰ.not-nil m)
  map_from (a ∷ l) m =
      ⊎_elim
      (λ e. (a, Memᴰ.head refl, e))
      (λ n. let (x, p, e) = map_from l n in (x, Memᴰ.tail p, e))
      (Memᴰ.cases_cons m)

  -- numbers that rise with their elements rise in a list of these that rises
  pub map_rising {ν ξ} : (R : A → A → Type ν) (S : B → B → Type ξ) (l : List A)
      → ((a b : A) → Memᴰ a l → Memᴰ b l → R a b → S (f a) (f b)) → Rising R l → Rising S (map f l)
  unfolding Rising
  map_rising R S [] up r = tt
  map_rising R S (a ∷ l) up r = (
    λ b m. let (x, p, e) = map_from l m in rw e (up a x (Memᴰ.head refl) (Memᴰ.tail p) (r.0 x p)),
    map_rising R S l (λ x y p q. up x y (Memᴰ.tail p) (Memᴰ.tail q)) r.1,
  )

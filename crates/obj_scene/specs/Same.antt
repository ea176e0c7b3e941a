-- Two lists that are compared.
use Rattle.std.specs.Prelude.{Bool, nat_eq, true, false, ◌&&◌, List, [], ◌∷◌, ◌≡◌, refl, ℕ, suc, eqb, length}
use Rattle.std.specs.Cmp.Lexicographic.{pointwise}
use Rattle.std.proofs.lemmas.Bool.{false≢true}
use Rattle.std.proofs.Common.{ap, eqb-true}
use Rattle.sequences.specs.Pick.{both}
use Rattle.meaning.specs.ObjPair.{same_numbers}

-- what `==` says of two slices
pub same_pointwise : (l k : List ℕ) → same_numbers l k ≡ pointwise nat_eq l k
unfolding same_numbers
same_pointwise [] [] = refl
same_pointwise [] (b ∷ k) = refl
same_pointwise (a ∷ l) [] = refl
same_pointwise (a ∷ l) (b ∷ k) = ap (λ x. eqb a b && x) (same_pointwise l k)

-- lists that are alike are one
pub same_is : (l k : List ℕ) → same_numbers l k ≡ true → l ≡ k
unfolding same_numbers
same_is [] [] e = refl
same_is [] (b ∷ k) e = absurd (false≢true e)
same_is (a ∷ l) [] e = absurd (false≢true e)
same_is (a ∷ l) (b ∷ k) e =
    let (u, v) = both (eqb a b) (same_numbers l k) e in
    λ i. eqb-true a b u i ∷ same_is l k v i

-- lists of other lengths are not the same
pub lengths_differ : (l k : List ℕ) → (length l ≡ length k → ⊥) → false ≡ same_numbers l k
unfolding same_numbers
lengths_differ [] [] h = absurd (h refl)
lengths_differ [] (b ∷ k) h = refl
lengths_differ (a ∷ l) [] h = refl
lengths_differ (a ∷ l) (b ∷ k) h = go (eqb a b) (lengths_differ l k (λ e. h (ap suc e)))
  where
    go : (t : Bool) → false ≡ same_numbers l k → false ≡ t && same_numbers l k
    go true e = e
    go false e = refl

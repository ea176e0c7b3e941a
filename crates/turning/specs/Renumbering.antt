-- Vertex numbers counted from the last, one at a time, where they stand.
use Rattle.std.specs.Prelude.{ℕ, ◌+◌, ◌≤◌, ◌<◌, Bool, true, false, List, map, ◌≡◌, refl, eqb, length, get_or, set}
use Rattle.std.proofs.Common.{sym, ◌∙◌, ap, arith, length-set, get_or-set_same, get_or-set_other, ext_get_or, eqb-true}
use Rattle.std.proofs.lemmas.List.{length-map}
use Rattle.std.proofs.lemmas.Bool.{eqb-false}
use Rattle.meaning.specs.Backwards.{from_last}
use Rattle.turning_laws.specs.Numbers.{mapped_at}

-- all numbers of the list are below n
abbrev pub AllBelow : ℕ → List ℕ → Type 0
AllBelow n l = (i : ℕ) → i < length l → get_or l i 0 < n

-- of a list that was l and is l': the numbers before i are counted from the last of n, the others are as they were
pub record Renumbering (n : ℕ) (l l' : List ℕ) (i : ℕ) : Type 0 where
  pub within : i ≤ length l
  pub long : length l' ≡ length l
  pub done : (x : ℕ) → x < i → get_or l' x 0 ≡ from_last n (get_or l x 0)
  pub left : (x : ℕ) → i ≤ x → get_or l' x 0 ≡ get_or l x 0

pub renumbering_starts : (n : ℕ) (l : List ℕ) → Renumbering n l l 0
renumbering_starts n l = record { within = omega arith; long = refl; done = λ x h. absurd (omega arith); left = λ x h. refl }

module _ {n : ℕ} {l l' : List ℕ} {i : ℕ} (e : Renumbering n l l' i) where
  pub number_here : AllBelow n l → i < length l → get_or l' i 0 < n
  number_here below h = rw (e.left i (omega arith)) (below i h)

  pub renumbering_goes : i < length l → (v : ℕ) → v ≡ from_last n (get_or l' i 0) → Renumbering n l (set l' i v) (i + 1)
  renumbering_goes h v is = record {
    within = omega arith;
    long = simp length-set e.long;
    done = λ x k. by_place x k (eqb x i) refl;
    left = λ x k. get_or-set_other l' i x v 0 (λ d. omega arith) ∙ e.left x (omega arith);
  }
    where
      by_place : (x : ℕ) → x < i + 1 → (b : Bool) → eqb x i ≡ b → get_or (set l' i v) x 0 ≡ from_last n (get_or l x 0)
      by_place x k true p =
          let x_is : x ≡ i = eqb-true x i p in
          rw x_is (get_or-set_same l' i v 0 (omega (arith, e.long)) ∙ is ∙ ap (from_last n) (e.left i (omega arith)))
      by_place x k false p = get_or-set_other l' i x v 0 (eqb-false x i p) ∙ e.done x (omega (arith, eqb-false x i p))

  pub renumbering_ends : length l ≤ i → l' ≡ map (from_last n) l
  renumbering_ends h =
      ext_get_or 0 l' (map (from_last n) l) (e.long ∙ sym (length-map l (from_last n)))
      (λ x k. e.done x (omega (arith, e.long)) ∙ sym (mapped_at (from_last n) l x 0 0 (omega (arith, e.long))))

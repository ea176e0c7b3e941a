-- Of some places those that pass a test, each as one number: a step of a walk leaves the numbers of what it found and of what is left.
use Rattle.std.specs.Prelude.{ℕ, ◌+◌, ◌<◌, Bool, true, false, ◌&&◌, List, [], ◌∷◌, ◌++◌, map, ◌≡◌, refl}
use Rattle.std.proofs.Math.Bool.{and_comm}
use Rattle.std.proofs.Common.{sym, ap, ◌∙◌, arith}
use Rattle.sequences.specs.Chosen.{one, chosen, chosen_none, chosen_first}
use Rattle.sequences.specs.Gather.{gather, gather_none, gather_first}
use Rattle.sequences.specs.Mapped.{map_append}
use Rattle.sequences.specs.Pick.{pick, pick_into}
use Rattle.sequences.specs.Range.{towards}
use Rattle.mesh_walk.specs.Places.{places_from}

unfoldable pub sifted : (ℕ → Bool) → (ℕ → ℕ) → List ℕ → List ℕ
sifted t g [] = []
sifted t g (j ∷ l) = one (t j) (g j) ++ sifted t g l

-- a place is found, or none
pub sifted_found : (t : ℕ → Bool) (g : ℕ → ℕ) (found : Bool) (r : ℕ) (l : List ℕ)
    → sifted t g (pick found (r ∷ l) l) ≡ one (found && t r) (g r) ++ sifted t g l
unfolding sifted
sifted_found t g true r l = refl
sifted_found t g false r l = refl

-- those chosen by one test and sifted by another are those chosen by both
pub sifted_chosen : (t m : ℕ → Bool) (g : ℕ → ℕ) (n a : ℕ) → sifted t g (places_from m n a) ≡ chosen (λ j. t j && m j) g a n
unfolding sifted
sifted_chosen t m g n =
    towards n (λ a. sifted t g (places_from m n a) ≡ chosen (λ j. t j && m j) g a n)
    (λ a past. ap (sifted t g) (chosen_none m (λ j. j) a n past) ∙ sym (chosen_none (λ j. t j && m j) g a n past))
    (λ a lt next.
    ap (sifted t g) (chosen_first m (λ j. j) a n lt)
    ∙ sifted_found t g (m a) a (places_from m n (a + 1))
    ∙ ap (λ (b : Bool). one b (g a) ++ sifted t g (places_from m n (a + 1))) (and_comm (m a) (t a))
    ∙ ap (λ (l : List ℕ). one (t a && m a) (g a) ++ l) next
    ∙ sym (gather_first (λ j. one (t j && m j) (g j)) a n lt))

module _ {ℓ κ} {A : Type ℓ} {B : Type κ} (f : A → B) where
  -- what is gathered, element by element
  pub map_gather : (h : ℕ → List A) (n a : ℕ) → map f (gather h a n) ≡ gather (λ j. map f (h j)) a n
  map_gather h n =
      towards n (λ a. map f (gather h a n) ≡ gather (λ j. map f (h j)) a n)
      (λ a past. ap (map f) (gather_none h a n past) ∙ sym (gather_none (λ j. map f (h j)) a n past))
      (λ a lt next.
      ap (map f) (gather_first h a n lt)
      ∙ map_append f (h a) (gather h (a + 1) n)
      ∙ ap (λ (l : List B). map f (h a) ++ l) next
      ∙ sym (gather_first (λ j. map f (h j)) a n lt))

  pub map_one : (t : Bool) (a : A) → map f (one t a) ≡ one t (f a)
  map_one true a = refl
  map_one false a = refl

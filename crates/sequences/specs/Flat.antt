-- A list written out element by element, each as a short list of one width: an entry of a buffer stands at its number times the width.
use mathlib.Core.List.{List, [], ◌∷◌, ◌++◌, append_assoc, flat_map}
use Rattle.std.specs.Prelude.{◌≡◌, get_or}
use Rattle.std.proofs.Math.Path.{refl, sym, ap}
use Rattle.std.proofs.Common.{◌∙◌, le_of_suc-le-suc, not-suc-le-zero, zero-mul, arith, get_or-append-add}
use Prim.Native.Nat.{ℕ, zero, suc, ◌+◌, ◌*◌, ◌<◌}
use Rattle.std.proofs.Math.Nat.{suc-mul, zero-add}
use Rattle.std.proofs.Math.ListN.{length, length-append, get_or-append}
use Rattle.sequences.specs.Gather.{gather, gather_none, gather_first}
use Rattle.sequences.specs.Parts.{append_split}
use Rattle.sequences.specs.Range.{towards}

module _ {ℓ κ} {A : Type ℓ} {B : Type κ} (e : A → List B) where
  pub flat_nil : flat_map e [] ≡ []
  unfolding flat_map
  flat_nil = refl

  pub flat_cons : (a : A) (l : List A) → flat_map e (a ∷ l) ≡ e a ++ flat_map e l
  unfolding flat_map
  flat_cons a l = refl

  pub flat_append : (l k : List A) → flat_map e (l ++ k) ≡ flat_map e l ++ flat_map e k
  unfolding flat_map
  flat_append [] k = refl
  flat_append (a ∷ l) k = cc (flat_append l k, append_assoc (e a) (flat_map e l) (flat_map e k))

  pub flat_gather : (f : ℕ → List A) (i n : ℕ) → flat_map e (gather f i n) ≡ gather (λ j. flat_map e (f j)) i n
  flat_gather f i n =
      towards n (λ i. flat_map e (gather f i n) ≡ gather (λ j. flat_map e (f j)) i n)
      (λ i past. cc (gather_none f i n past, gather_none (λ j. flat_map e (f j)) i n past, flat_nil))
      (λ i lt next.
      cc (gather_first f i n lt, gather_first (λ j. flat_map e (f j)) i n lt, flat_append (f i) (gather f (i + 1) n), next))
      i

  module _ (w : ℕ) (width : (a : A) → length (e a) ≡ w) where
    pub flat_length : (l : List A) → length (flat_map e l) ≡ length l * w
    unfolding flat_map
    flat_length [] = sym (zero-mul w)
    flat_length (a ∷ l) = omega (arith, length-append (e a) (flat_map e l), width a, flat_length l, suc-mul (length l) w)

    -- the number j of the entry i
    pub flat_at : (l : List A) (i j : ℕ) (a : A) (d : B) → i < length l → j < w
        → get_or (flat_map e l) (i * w + j) d ≡ get_or (e (get_or l i a)) j d
    unfolding flat_map
    flat_at [] i j a d h k = absurd (not-suc-le-zero h)
    flat_at (x ∷ l) zero j a d h k =
        rw (zero-mul w, zero-add j) (get_or-append (e x) (flat_map e l) d j (rw (width x) k))
    flat_at (x ∷ l) (suc i) j a d h k =
        let far : suc i * w + j ≡ length (e x) + (i * w + j) = omega (arith, width x, suc-mul i w) in
        rw far (get_or-append-add (e x) (flat_map e l) (i * w + j) d ∙ flat_at l i j a d (le_of_suc-le-suc h) k)

    -- entries that can be told apart make lists that can be told apart
    pub flat_unique : ((a b : A) → e a ≡ e b → a ≡ b) → 0 < w → (l k : List A) → flat_map e l ≡ flat_map e k → l ≡ k
    unfolding flat_map
    flat_unique apart some [] [] same = refl
    flat_unique apart some [] (b ∷ k) same =
        absurd (omega (arith, ap length same, length-append (e b) (flat_map e k), width b))
    flat_unique apart some (a ∷ l) [] same =
        absurd (omega (arith, ap length same, length-append (e a) (flat_map e l), width a))
    flat_unique apart some (a ∷ l) (b ∷ k) same =
        let (first, rest) = append_split (e a) (e b) (width a ∙ sym (width b)) same in
        λ i. apart a b first i ∷ flat_unique apart some l k rest i

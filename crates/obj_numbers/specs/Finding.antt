-- The loop that looks for a byte: it is not among those that were passed.
use Rattle.std.specs.Prelude.{Bool, true, false, List, [], ◌∷◌, ◌≡◌, refl, eqb, length, get_or, drop}
use Rattle.std.proofs.Common.{sym, ap, ◌∙◌, drop_of_length-le}
use Prim.Native.Nat.{ℕ, suc, ◌+◌, ◌≤◌, ◌<◌}
use native.Mathlib.Omega.{arith}
use Rattle.sequences.specs.Parts.{drop_next}
use Rattle.sequences.specs.Pick.{pick}
use Rattle.meaning.specs.ObjLine.{place_of}

pub record Finding (c : ℕ) (s : List ℕ) (k : ℕ) : Type 0 where
  pub place : place_of c s ≡ k + place_of c (drop k s)
  pub within : k ≤ length s

pub find_starts : (c : ℕ) (s : List ℕ) → Finding c s 0
find_starts c s = record { place = omega arith; within = omega arith }

module _ {c : ℕ} {s : List ℕ} {k : ℕ} (f : Finding c s k) where
  pub find_here : k < length s → eqb (get_or s k 0) c ≡ true → k ≡ place_of c s
  unfolding place_of
  find_here h e =
      let none : place_of c (drop k s) ≡ 0 = rw (drop_next s k 0 h, e) in
      omega (arith, f.place, none)

  pub find_goes : k < length s → eqb (get_or s k 0) c ≡ false → Finding c s (k + 1)
  unfolding place_of
  find_goes h e =
      let one : place_of c (drop k s) ≡ suc (place_of c (drop (k + 1) s)) = rw (drop_next s k 0 h, e) in
      record { place = omega (arith, f.place, one); within = omega arith }

  pub find_ends : length s ≤ k → length s ≡ place_of c s
  unfolding place_of
  find_ends h =
      let none : place_of c (drop k s) ≡ 0 = rw (drop_of_length-le s h) in
      omega (arith, f.place, f.within, none)

pub place_within : (c : ℕ) (l : List ℕ) → place_of c l ≤ length l
unfolding place_of
place_within c [] = omega arith
place_within c (b ∷ l) = go (eqb b c) (place_within c l)
  where
    go : (t : Bool) → place_of c l ≤ length l → pick t 0 (suc (place_of c l)) ≤ length (b ∷ l)
    go true h = omega arith
    go false h = omega arith

pub place_fits : (c : ℕ) (l : List ℕ) {k : ℕ} → k ≡ place_of c l → k ≤ length l
place_fits c l e = omega (arith, e, place_within c l)

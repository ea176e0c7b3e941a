-- Numbers counted from the last: counted so twice they are as they were, the order falls, and what is no vertex's number stays one.
use Rattle.std.specs.Prelude.{ℕ, zero, suc, ◌-◌, ◌≤◌, ◌<◌, Bool, true, false, List, [], ◌∷◌, map, ◌≡◌, refl, leb, eqb, length, get_or}
use Rattle.std.proofs.Common.{sym, ◌∙◌, ap, not-suc-le-zero, le_of_suc-le-suc, arith, lt-ltb, le-ltb, eq-eqb, ne_eqb, eqb-true}
use Rattle.std.proofs.Math.Decide.{dec_lt}
use Rattle.std.proofs.lemmas.Bool.{lt-leb, eqb-false}
use Rattle.meaning.specs.Backwards.{from_last}

-- a number of a list that is mapped
pub mapped_at : {A B : Type 0} (f : A → B) (l : List A) (i : ℕ) (d : A) (e : B) → i < length l → get_or (map f l) i e ≡ f (get_or l i d)
mapped_at f [] i d e h = absurd (not-suc-le-zero h)
mapped_at f (a ∷ l) zero d e h = refl
mapped_at f (a ∷ l) (suc i) d e h = mapped_at f l i d e (le_of_suc-le-suc h)

module _ (n : ℕ) where
  pub known_number : (v : ℕ) → v < n → from_last n v ≡ n - 1 - v
  known_number v h = rw (lt-ltb v n h)

  pub other_number : (v : ℕ) → n ≤ v → from_last n v ≡ v
  other_number v h = rw (le-ltb v n h)

  pub number_below : (v : ℕ) → v < n → from_last n v < n
  number_below v h = rw (known_number v h) (omega arith)

  pub number_falls : (a b : ℕ) → a < b → b < n → from_last n b < from_last n a
  number_falls a b h k = rw (known_number a (omega arith), known_number b k) (omega arith)

  pub number_twice : (v : ℕ) → from_last n (from_last n v) ≡ v
  number_twice v = go (dec_lt v n)
    where
      go : Dec (v < n) → from_last n (from_last n v) ≡ v
      go (yes h) = rw (known_number v h, known_number (n - 1 - v) (omega arith)) (omega arith)
      go (no h) = let k : n ≤ v = omega arith in rw (other_number v k, other_number v k)

  pub numbers_twice : (l : List ℕ) → map (from_last n) (map (from_last n) l) ≡ l
  numbers_twice [] = refl
  numbers_twice (v ∷ l) = λ i. number_twice v i ∷ numbers_twice l i

  -- what is no vertex's number
  pub number_unknown : (v : ℕ) → leb n (from_last n v) ≡ leb n v
  number_unknown v = go (dec_lt v n)
    where
      go : Dec (v < n) → leb n (from_last n v) ≡ leb n v
      go (yes h) = lt-leb n (from_last n v) (number_below v h) ∙ sym (lt-leb n v h)
      go (no h) = rw (other_number v (omega arith))

  -- two numbers are the same where they were
  pub number_same : (a b : ℕ) → eqb (from_last n a) (from_last n b) ≡ eqb a b
  number_same a b = go (eqb a b) refl
    where
      go : (c : Bool) → eqb a b ≡ c → eqb (from_last n a) (from_last n b) ≡ c
      go true e = eq-eqb (from_last n a) (from_last n b) (ap (from_last n) (eqb-true a b e))
      go false e =
          ne_eqb (from_last n a) (from_last n b) (λ s. eqb-false a b e (sym (number_twice a) ∙ ap (from_last n) s ∙ number_twice b))

-- The invariant of a loop that counts a list before another writes it: what is counted, with what is left, is the whole.
use Rattle.std.specs.Prelude.{List, [], ◌∷◌, ◌++◌, ◌≡◌, ℕ, ◌+◌, length}
use Rattle.std.proofs.Common.{arith, length-append}

module _ {ℓ} {A : Type ℓ} where
  -- of the list l so many are counted, and those of rest are not
  pub record Counting (l : List A) (count : ℕ) (rest : List A) : Type 0 where
    pub whole : count + length rest ≡ length l

  pub counting_starts : (l : List A) → Counting l 0 l
  counting_starts l = record { whole = omega arith }

  module _ {l : List A} {count : ℕ} where
    pub counting_step : {a : A} {rest : List A} → Counting l count (a ∷ rest) → Counting l (count + 1) rest
    counting_step c = record { whole = omega (arith, c.whole) }

    pub counting_steps : (part rest : List A) → Counting l count (part ++ rest) → Counting l (count + length part) rest
    counting_steps part rest c = record { whole = omega (arith, c.whole, length-append part rest) }

    pub counting_as : {rest other : List A} → rest ≡ other → Counting l count rest → Counting l count other
    counting_as e c = rw e at c

    pub counting_ends : Counting l count [] → count ≡ length l
    counting_ends c = omega (arith, c.whole)

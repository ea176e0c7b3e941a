-- Pairs counted and entered in one walk: each is entered while its number is below `most`, and all are counted. Where they are no more than
-- `most` in all, they are entered.
use Rattle.std.specs.Prelude.{ℕ, ◌+◌, ◌≤◌, Bool, true, false, List, [], ◌∷◌, ◌≡◌, refl, ltb, length, set}
use Rattle.std.proofs.Common.{sym, ◌∙◌, arith}
use Rattle.sequences.specs.Chosen.{one}
use Rattle.sequences.specs.Gather.{gather, gather_none}
use Rattle.sequences.specs.Pick.{pick}
use Rattle.meaning.specs.List.{Pair, number, entries}

-- a number is stored in its place if that is below `most`
abbrev pub kept : ℕ → ℕ → ℕ → List ℕ → List ℕ
kept most k e o = pick (ltb k most) (set o k e) o

-- one behind the other, from the place k on
unfoldable pub enter_all : ℕ → ℕ → List ℕ → List ℕ → List ℕ
enter_all most k [] o = o
enter_all most k (e ∷ es) o = enter_all most (k + 1) es (kept most k e o)

-- the pairs were walked from the number k on: the list held o and holds o', and m is the number behind them
pub record Walked (most : ℕ) (o : List ℕ) (k : ℕ) (ps : List Pair) (o' : List ℕ) (m : ℕ) : Type 0 where
  pub counts : m ≡ k + length ps
  pub list : o' ≡ enter_all most k (entries ps) o

-- no two lists and numbers can come of one walk
pub walked_one : {most k m m' : ℕ} {o o₁ o₂ : List ℕ} {ps : List Pair} → Walked most o k ps o₁ m → Walked most o k ps o₂ m' → (o₁ ≡ o₂) × (m ≡ m')
walked_one v w = (v.list ∙ sym w.list, v.counts ∙ sym w.counts)

pub walked_none : (most : ℕ) (o : List ℕ) (k : ℕ) → Walked most o k [] o k
unfolding enter_all
walked_none most o k = record { counts = omega arith; list = refl }

-- a pair that is walked or not by a test t, which was made and answered r
module _ {most : ℕ} {o : List ℕ} {k : ℕ} (t : Bool) (p : Pair) {r : Bool} (made : r ≡ t) where
  pub walked_pair : {o' : List ℕ} → r ≡ true → o' ≡ kept most k (number p) o → Walked most o k (one t p) o' (k + 1)
  unfolding enter_all
  walked_pair e w = rw (← made, e) (record { counts = omega arith; list = w })

  pub walked_no_pair : r ≡ false → Walked most o k (one t p) o k
  walked_no_pair e = rw (← made, e) (walked_none most o k)

-- ---- index by index

-- from the number `from` on what was gathered from the index `first` up to i has been walked, and k is the number behind that
pub record Walking (f : ℕ → List Pair) (most : ℕ) (o₀ : List ℕ) (from first : ℕ) (o : List ℕ) (k i : ℕ) : Type 0 where
  pub past : first ≤ i
  pub done : Walked most o₀ from (gather f first i) o k

module _ (f : ℕ → List Pair) {most : ℕ} where
  pub walking_starts : (o : List ℕ) (k i : ℕ) → Walking f most o k i o k i
  walking_starts o k i = record { past = omega arith; done = rw (gather_none f i i (omega arith)) (walked_none most o k) }

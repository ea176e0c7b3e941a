-- The calls over meshes for C: the refusal's number, 0 where there is none, is returned; a count, which may be beyond 32 bits, and totals go into a
-- lent array. 7 leaves the count needed there, any other refusal what stood there.
use Rattle.std.specs.Prelude.{ℕ, ◌/◌, ◌%◌, Bool, List, [], ◌∷◌, ◌≡◌, eqb}
use Rattle.sequences.specs.Pick.{pick}
use Rattle.sequences.specs.Wrote.{written}
use Rattle.meaning.specs.Refusals.{Outcome, given, refused}
use Rattle.meaning.specs.MeshEdges.{EdgesTold, whole, bare, twice}
use Rattle.meaning.specs.declared.KeptRows.{KeptRows}
use Rattle.meaning.specs.declared.Wanted.{Wanted}

unfoldable pub refusal_of : {A : Type 0} → Outcome A → ℕ
refusal_of (given a) = 0
refusal_of (refused n c) = n

-- what a refusal leaves of the lent array: the count needed in front where it is 7
abbrev pub needed_left : ℕ → ℕ → List ℕ → List ℕ
needed_left n c l = pick (eqb n 7) (written (c ∷ []) l) l

unfoldable pub count_left : Outcome ℕ → List ℕ → List ℕ
count_left (given n) l = written (n ∷ []) l
count_left (refused n c) l = needed_left n c l

-- how many are kept, how many there are, and the four totals
unfoldable pub kept_left : Outcome KeptRows → List ℕ → List ℕ
kept_left (given t) l = written (t.count ∷ t.listed ∷ t.hits ∷ t.misses ∷ t.touches ∷ t.aparts ∷ []) l
kept_left (refused n c) l = needed_left n c l

-- 0 where all is well, 1 with the first bare side, 2 with the number of the order behind which the ends do not rise
unfoldable pub edges_left : Outcome EdgesTold → List ℕ → List ℕ
edges_left (given whole) l = written (0 ∷ 0 ∷ []) l
edges_left (given (bare k)) l = written (1 ∷ k ∷ []) l
edges_left (given (twice k)) l = written (2 ∷ k ∷ []) l
edges_left (refused n c) l = l

-- r is the number of a right answer to a call, and the lent array, which held t and holds t', has what the answer leaves there
pub record Left {A B : Type 0} (says : A → Outcome B) (left : Outcome B → List ℕ → List ℕ) (Right : A → Type 0) (t t' : List ℕ) (r : ℕ) : Type 0 where
  pub answer : A
  pub right : Right answer
  pub is : r ≡ refusal_of (says answer)
  pub told : t' ≡ left (says answer) t

-- the words asked for as one number: 2 to the power of each word's byte, added up
abbrev pub wanted_by : ℕ → Wanted
wanted_by n = record { hit = odd n; miss = odd (n / 2); touch = odd (n / 8); apart = odd (n / 16) }
  where
    odd : ℕ → Bool
    odd k = eqb (k % 2) 1

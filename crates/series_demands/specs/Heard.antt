-- What a caller hears of a series in the number, the rows, the counts and the eight numbers of its call is what the text's series has: no number
-- of it is cut, and a refusal has its line or count as it is.
use Rattle.std.specs.Prelude.{ℕ, zero, suc, ◌≡◌, ℤ, length}
use mathlib.Core.List.{List, [], ◌∷◌}
use Rattle.sequences.specs.Wrote.{written}
use Rattle.meaning.specs.Scene.{Scene}
use Rattle.meaning.specs.Refusals.{Outcome, given, refused}
use Rattle.meaning.specs.List.{pair, pairs, number, room_of}
use Rattle.meaning.specs.Series.{HitAt, hit_at, last_step, Told}
use Rattle.meaning.specs.SeriesText.{Ended}
use Rattle.meaning.specs.declared.SceneCounts.{SceneCounts}
use Rattle.list_entries.specs.Entries.{pair_of}
use Rattle.meaning.specs.SeriesCall.{BoxedSeries, told_part, counts_part}
use Rattle.meaning.specs.Numbers.{number_for}
use Rattle.c_numbers.specs.Back.{heard, count}

-- ---- the rows

-- the step and the number of the pair of each hit, one behind the other
unfoldable pub hit_rows : List HitAt → List ℕ
hit_rows [] = []
hit_rows (h ∷ hs) = h.step ∷ number h.pair ∷ hit_rows hs

-- as many hits as are told, read from rows again
unfoldable pub hits_of_rows : ℕ → List ℕ → List HitAt
hits_of_rows zero l = []
hits_of_rows (suc k) [] = []
hits_of_rows (suc k) (n ∷ []) = []
hits_of_rows (suc k) (n ∷ m ∷ l) = hit_at n (pair_of m) ∷ hits_of_rows k l

-- the log in front of the lent rows, or nothing changed
unfoldable pub rows_after : Outcome Ended → List ℕ → List ℕ
rows_after (given e) rows = written (hit_rows e.told.log) rows
rows_after (refused n c) rows = rows

-- ---- the number

-- the pairs that the last step lists
unfoldable pub last_counted : Outcome Ended → Outcome ℕ
last_counted (given e) = given (length (pairs (last_step e.series)))
last_counted (refused n c) = refused n c

-- ---- the counts

unfoldable pub counts_after : Outcome SceneCounts → List ℕ → List ℕ
counts_after (given c) l = c.vertices ∷ c.edges ∷ c.triangles ∷ c.seams ∷ []
counts_after (refused n k) l = l

-- ---- the eight numbers

-- how many entries the log has, and what is told beside it
unfoldable pub numbers_after : Outcome Told → List ℕ → List ℕ
numbers_after (given t) l = length t.log ∷ t.later ∷ t.listed ∷ t.hits ∷ t.misses ∷ t.touches ∷ t.aparts ∷ t.first ∷ []
numbers_after (refused n c) l = l

-- ---- the call

-- what the text comes to, and by it the number and the lent arrays
pub record SeriesHeard (text : List ℕ) (lent : Scene) (b : List ℤ) (l c c' rows rows' told told' : List ℕ) (r : ℕ) : Type 0 where
  pub outcome : Outcome Ended
  pub right : BoxedSeries text lent b (room_of l) outcome
  -- the refusal's number times 2^32 and what it carries, whole; and it is heard again
  pub number : r ≡ number_for count (last_counted outcome)
  pub hears : heard count r ≡ last_counted outcome
  -- step and number of the pair of each entry of the log, whole; and the entries are read again
  pub log : rows' ≡ rows_after outcome rows
  pub again : (e : Ended) → outcome ≡ given e → hits_of_rows (length e.told.log) rows' ≡ e.told.log
  pub counts : c' ≡ counts_after (counts_part outcome) c
  -- the first of the eight is how many entries the log has
  pub numbers : told' ≡ numbers_after (told_part outcome) told

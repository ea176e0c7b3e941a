-- A series told as numbers into lent arrays, since neither a struct nor an enum crosses to C: the rows of its log, and the numbers beside it.
use Rattle.std.specs.Prelude.{ℕ, ◌+◌, ◌*◌, ◌%◌, List, [], ◌∷◌, ◌≡◌, take, ℤ, Err, Ok, Result}
use Rattle.meaning.specs.Refusals.{number_of}
use Rattle.meaning.specs.List.{pair, place_step, number}
use Rattle.meaning.specs.declared.Refusal.{Refusal}
use Rattle.meaning.specs.declared.StepHit.{StepHit}
use Rattle.meaning.specs.declared.SeriesTold.{SeriesTold}
use Rattle.sequences.specs.Wrote.{written}
use Rattle.meaning.specs.Scene.{Scene}
use Rattle.meaning.specs.declared.SeriesListed.{SeriesListed}
use Rattle.meaning.specs.SeriesCall.{SeriesCounted}
use Rattle.meaning.specs.declared.Refused.{Refused}
use Rattle.meaning.specs.declared.SceneCounts.{SceneCounts}

-- a step is below 2^32 and a place below its step in an entry, so that each is told as it is
abbrev pub row_step : StepHit → ℕ
row_step h = h.step % 4_294_967_296

abbrev pub row_entry : StepHit → ℕ
row_entry h = number (pair h.kind (h.first % place_step) (h.second % place_step))

unfoldable pub rows_of : List StepHit → List ℕ
rows_of [] = []
rows_of (h ∷ hs) = row_step h ∷ row_entry h ∷ rows_of hs

-- held, later, listed, hits, misses, touches, aparts, first
abbrev pub told_numbers : SeriesTold → List ℕ
told_numbers t = t.log.held ∷ t.log.later ∷ t.listed ∷ t.hits ∷ t.misses ∷ t.touches ∷ t.aparts ∷ t.first ∷ []

abbrev pub refused_number : Refusal → ℕ → ℕ
refused_number f n = number_of f * 4_294_967_296 + n % 4_294_967_296

-- how many pairs the last step lists, or the refusal; a refusal leaves what stood in the arrays
unfoldable pub answer_number : Result SceneCounts Refused → ℕ → ℕ
answer_number (Ok c) n = n
answer_number (Err f) n = refused_number f.why f.carries

unfoldable pub series_counts : Result SceneCounts Refused → List ℕ → List ℕ
series_counts (Ok c) l = c.vertices ∷ c.edges ∷ c.triangles ∷ c.seams ∷ []
series_counts (Err f) l = l

unfoldable pub log_left : Result SceneCounts Refused → SeriesTold → List ℕ → List ℕ
log_left (Ok c) t l = written (rows_of (take t.log.held t.log.hits)) l
log_left (Err f) t l = l

unfoldable pub numbers_left : Result SceneCounts Refused → SeriesTold → List ℕ → List ℕ
numbers_left (Ok c) t l = told_numbers t
numbers_left (Err f) t l = l

pub record SeriesInto (text : List ℕ) (lent left : Scene) (b b' : List ℤ) (l l' c c' rows rows' told told' : List ℕ) (r : ℕ) : Type 0 where
  pub all : SeriesListed
  pub right : SeriesCounted text lent left b b' l l' all
  pub is : r ≡ answer_number all.answer.outcome all.count
  pub counts : c' ≡ series_counts all.answer.outcome c
  pub log : rows' ≡ log_left all.answer.outcome all.answer.told rows
  pub numbers : told' ≡ numbers_left all.answer.outcome all.answer.told told

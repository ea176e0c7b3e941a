-- What is promised of the call for a series: its answer, and every lent number afterwards.
use Rattle.std.specs.Prelude.{ℕ, ◌||◌, List, ◌≡◌, ℤ, length, Err, Ok, Result}
use Rattle.meaning.specs.Scene.{Scene}
use Rattle.meaning.specs.Refusals.{Outcome, given, refused, number_of, behind_twelve_and_eight}
use Rattle.meaning.specs.List.{pairs, room_of}
use Rattle.meaning.specs.Text.{short_buffer, long_text, counts_of}
use Rattle.meaning.specs.StoredBoxes.{short_boxes, Filled}
use Rattle.meaning.specs.Series.{Told, last_step}
use Rattle.meaning.specs.SeriesText.{Ended, SeriesIs, last_step_left, list_left}
use Rattle.meaning.specs.declared.SceneCounts.{SceneCounts}
use Rattle.meaning.specs.declared.SeriesTold.{SeriesTold}
use Rattle.meaning.specs.declared.SeriesListed.{SeriesListed}
use Rattle.meaning.specs.declared.SeriesAnswer.{SeriesAnswer}
use Rattle.meaning.specs.SeriesAnswers.{HeldRight, nothing_told, answer_says}
use Rattle.meaning.specs.declared.Refused.{Refused}

-- 12 for any of the lent buffers, 8, then the text
abbrev pub BoxedSeries : List ℕ → Scene → List ℤ → ℕ → Outcome Ended → Type 0
BoxedSeries text lent b room o =
    behind_twelve_and_eight (short_boxes b || short_buffer lent) (long_text text) (SeriesIs text room) o

-- what is told, and the counts of the last step
unfoldable pub told_part : Outcome Ended → Outcome Told
told_part (given e) = given e.told
told_part (refused n c) = refused n c

unfoldable pub counts_part : Outcome Ended → Outcome SceneCounts
counts_part (given e) = given (counts_of (last_step e.series))
counts_part (refused n c) = refused n c

unfoldable pub counts_said : Result SceneCounts Refused → Outcome SceneCounts
counts_said (Ok c) = given c
counts_said (Err f) = refused (number_of f.why) f.carries

-- each stored box is then the one worked out from the last step's positions
unfoldable pub FillsLast : Outcome Ended → List ℤ → List ℤ → Type 0
FillsLast (given e) b b' = Filled (last_step e.series) b b'
FillsLast (refused n c) b b' = b' ≡ b

-- the log that is told holds as many entries as it says, in an array of 64; a refusal tells nothing
unfoldable pub ToldWhole : Result SceneCounts Refused → SeriesTold → Type 0
ToldWhole (Ok c) t = HeldRight t.log
ToldWhole (Err f) t = t ≡ nothing_told

pub record SeriesCalled (text : List ℕ) (lent left : Scene) (b b' : List ℤ) (l l' : List ℕ) (r : SeriesAnswer) : Type 0 where
  pub outcome : Outcome Ended
  pub right : BoxedSeries text lent b (room_of l) outcome
  pub says : answer_says r ≡ told_part outcome
  pub whole : ToldWhole r.outcome r.told
  pub counts : counts_said r.outcome ≡ counts_part outcome
  pub leaves : left ≡ last_step_left outcome lent
  pub boxes : FillsLast outcome b b'
  pub list : l' ≡ list_left outcome l

-- how many pairs the last step lists; nothing after a refusal
unfoldable pub last_count : Outcome Ended → ℕ
last_count (given e) = length (pairs (last_step e.series))
last_count (refused n c) = 0

pub record SeriesCounted (text : List ℕ) (lent left : Scene) (b b' : List ℤ) (l l' : List ℕ) (r : SeriesListed) : Type 0 where
  pub called : SeriesCalled text lent left b b' l l' r.answer
  pub count : r.count ≡ last_count called.outcome

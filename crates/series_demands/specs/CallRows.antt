-- Demand 1 of the call as rows: what the call answers of a text is what the rows of `Demand1` ask for, so each of its numbers is given exactly where its row
-- has it. Where the box buffer is long enough it is what is answered for the text itself.
use Rattle.std.specs.Prelude.{ℕ, false, ◌||◌, List, ◌≡◌, ℤ}
use Rattle.meaning.specs.Scene.{Scene}
use Rattle.meaning.specs.Refusals.{Outcome}
use Rattle.meaning.specs.List.{room_of}
use Rattle.meaning.specs.Text.{short_buffer}
use Rattle.meaning.specs.StoredBoxes.{short_boxes}
use Rattle.meaning.specs.SeriesText.{Ended, SeriesOutcome}
use Rattle.meaning.specs.SeriesCall.{BoxedSeries, SeriesCalled}
use Rattle.meaning.specs.declared.SeriesAnswer.{SeriesAnswer}
use Rattle.series_demands.specs.Demand1.{Staged, SeriesRows, series_rows}

module _ (text : List ℕ) (lent : Scene) (b : List ℤ) (room : ℕ) (o : Outcome Ended) (right : BoxedSeries text lent b room o) where
  pub answered_in_order : Staged text (short_boxes b || short_buffer lent) room o
  answered_in_order = right

  pub answered_by_rows : SeriesRows text (short_boxes b || short_buffer lent) room o
  answered_by_rows = series_rows text (short_boxes b || short_buffer lent) room o answered_in_order

  pub answered_of_text : short_boxes b ≡ false → SeriesOutcome text lent room o
  answered_of_text long = rw long at right

-- so of every call
pub call_by_rows : {text : List ℕ} {lent left : Scene} {b b' : List ℤ} {l l' : List ℕ} {r : SeriesAnswer} (h : SeriesCalled text lent left b b' l l' r)
    → SeriesRows text (short_boxes b || short_buffer lent) (room_of l) h.outcome
call_by_rows {text} {lent} {left} {b} {b'} {l} h = answered_by_rows text lent b (room_of l) h.outcome h.right

-- Of a text one thing is printed: two outputs that meet the promise are equal, lent buffers too, also of what was read of a text.
use Rattle.std.specs.Prelude.{ℕ, Bool, true, false, cond, List, ◌≡◌, take}
use Rattle.std.proofs.Common.{sym, ap, ◌∙◌}
use Rattle.meaning.specs.Limits.{report_room}
use Rattle.meaning.specs.Refusals.{Outcome, refused}
use Rattle.meaning.specs.Text.{long_text}
use Rattle.meaning.specs.shown.ReadShown.{front_read}
use Rattle.meaning.specs.SeriesText.{Ended, SeriesIs}
use Rattle.meaning.specs.SeriesLines.{outcome_lines, SeriesPrinted, SeriesReported, SeriesRead}
use Rattle.series_demands.specs.OneSeries.{one_outcome}
use Rattle.answers.specs.Printed.{one_in_front}

outcome_one : (text : List ℕ) (o o' : Outcome Ended) (b : Bool) → cond b (o ≡ refused 8 0) (SeriesIs text report_room o)
    → cond b (o' ≡ refused 8 0) (SeriesIs text report_room o') → o ≡ o'
outcome_one text o o' true h k = h ∙ sym k
outcome_one text o o' false h k = one_outcome text report_room o o' h k

pub one_printed : {text r r' : List ℕ} → SeriesPrinted text r → SeriesPrinted text r' → r ≡ r'
one_printed {text} p q =
    p.lines ∙ ap outcome_lines (outcome_one text p.outcome q.outcome (long_text text) p.right q.right) ∙ sym q.lines

pub one_series_reported : (text o o' o'' : List ℕ) (n n' : ℕ) → SeriesReported text o o' n → SeriesReported text o o'' n' → (n ≡ n') × (o' ≡ o'')
one_series_reported text o o' o'' n n' p q =
    one_in_front (SeriesPrinted text) (λ l k h j. one_printed h j) p q

-- of what was read: there is always a text of which that was read
pub one_series_read : (buffer o o' o'' : List ℕ) (count n n' : ℕ) → SeriesRead buffer count o o' n → SeriesRead buffer count o o'' n' → (n ≡ n') × (o' ≡ o'')
one_series_read buffer o o' o'' count n n' p q =
    one_series_reported (take count buffer) o o' o'' n n' (p (take count buffer) (front_read buffer count)) (q (take count buffer) (front_read buffer count))

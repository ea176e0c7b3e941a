-- What the call for a series answers, printed.
use Rattle.std.specs.Prelude.{ℕ, Bool, false, cond, ◌||◌, List, ◌≡◌, refl, ℤ}
use Rattle.std.proofs.Common.{ap, ◌∙◌, subst}
use Rattle.sequences.specs.Wrote.{Wrote}
use Rattle.meaning.specs.Limits.{report_room}
use Rattle.meaning.specs.Scene.{Scene}
use Rattle.meaning.specs.Refusals.{Outcome, given, refused}
use Rattle.meaning.specs.List.{room_of}
use Rattle.meaning.specs.Text.{short_buffer, long_text}
use Rattle.meaning.specs.StoredBoxes.{short_boxes}
use Rattle.meaning.specs.SeriesText.{Ended, SeriesIs}
use Rattle.meaning.specs.SeriesAnswers.{answer_says}
use Rattle.meaning.specs.declared.SeriesAnswer.{SeriesAnswer}
use Rattle.report_words.specs.Lines.{wrote_as}
use Rattle.meaning.specs.SeriesCall.{told_part, SeriesCalled}
use Rattle.meaning.specs.SeriesLines.{outcome_lines, SeriesReported}
use Rattle.series_report.specs.Whole.{answer_lines, OutcomeRight, outcome_reported}

part_lines : (o : Outcome Ended) → answer_lines (told_part o) ≡ outcome_lines o
unfolding answer_lines told_part outcome_lines
part_lines (given e) = refl
part_lines (refused n third) = refl

-- the lent buffers are long enough, and the list has the program's room
pub called_reported : {text : List ℕ} {lent left : Scene} {b b' : List ℤ} {l l' : List ℕ} {r : SeriesAnswer} {o o' : List ℕ} {n : ℕ}
    → short_boxes b || short_buffer lent ≡ false → room_of l ≡ report_room → SeriesCalled text lent left b b' l l' r
    → Wrote o 0 (answer_lines (answer_says r)) o' n → SeriesReported text o o' n
called_reported {text} {lent} {left} {b} {b'} {l} {l'} {r} wide room c w =
    let x : Outcome Ended = c.outcome in
    let past : cond (long_text text) (x ≡ refused 8 0) (SeriesIs text (room_of l) x) =
    subst (λ (s : Bool). cond s (x ≡ refused 12 0) (cond (long_text text) (x ≡ refused 8 0) (SeriesIs text (room_of l) x))) wide c.right in
    let right : OutcomeRight text x = subst (λ (k : ℕ). cond (long_text text) (x ≡ refused 8 0) (SeriesIs text k x)) room past in
    outcome_reported x right (wrote_as (ap answer_lines c.says ∙ part_lines x) w)

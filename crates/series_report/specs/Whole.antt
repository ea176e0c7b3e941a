-- From the answer that a call gives to what is printed for its text, and for what was read of it.
use Rattle.std.specs.Prelude.{ℕ, ◌≤◌, ◌<◌, Bool, true, cond, List, ◌≡◌, length, take, Err, Ok, Result}
use Rattle.std.proofs.Math.Path.{refl}
use Rattle.std.proofs.Common.{sym, ◌∙◌, subst, zero-add, arith, lt-ltb}
use Rattle.sequences.specs.Wrote.{Wrote, wrote_front}
use Rattle.meaning.specs.Limits.{text_limit, report_room}
use Rattle.meaning.specs.Refusals.{Outcome, given, refused, number_of, carrying}
use Rattle.meaning.specs.Text.{long_text}
use Rattle.meaning.specs.Report.{refused_line}
use Rattle.meaning.specs.Series.{Told}
use Rattle.meaning.specs.SeriesText.{Ended, SeriesIs}
use Rattle.meaning.specs.declared.Refusal.{Refusal}
use Rattle.meaning.specs.declared.SceneCounts.{SceneCounts}
use Rattle.meaning.specs.SeriesAnswers.{outcome_says}
use Rattle.text_scene.specs.ReadSoFar.{read_whole, read_full}
use Rattle.meaning.specs.SeriesLines.{told_lines, outcome_lines, SeriesReported, SeriesRead}
use Rattle.meaning.specs.declared.Refused.{Refused}

-- what the answer of a call prints
unfoldable pub answer_lines : Outcome Told → List ℕ
answer_lines (given t) = told_lines t
answer_lines (refused n third) = refused_line n third

module _ {outcome : Result SceneCounts Refused} (t : Told) where
  pub told_answer : {c : SceneCounts} → outcome ≡ Ok c → told_lines t ≡ answer_lines (outcome_says outcome t)
  unfolding answer_lines outcome_says
  told_answer e = rw e refl

  pub refused_answer : {f : Refusal} {n : ℕ} → outcome ≡ Err (carrying f n) → refused_line (number_of f) n ≡ answer_lines (outcome_says outcome t)
  unfolding answer_lines outcome_says
  refused_answer e = rw e refl

-- 8, then the text, in steps with room for 3,072 pairs each
abbrev pub OutcomeRight : List ℕ → Outcome Ended → Type 0
OutcomeRight text o = cond (long_text text) (o ≡ refused 8 0) (SeriesIs text report_room o)

pub outcome_reported : {text b b' : List ℕ} {k : ℕ} (o : Outcome Ended) → OutcomeRight text o → Wrote b 0 (outcome_lines o) b' k
    → SeriesReported text b b' k
outcome_reported o right w =
    record {
      report = outcome_lines o;
      right = record { outcome = o; right = right; lines = refl };
      length_is = w.place ∙ zero-add (length (outcome_lines o));
      buffer = wrote_front w;
    }

-- the text ended before the buffer was full
pub series_of_whole : {buffer o o' : List ℕ} {count n : ℕ} → count < length buffer → SeriesReported (take count buffer) o o' n
    → SeriesRead buffer count o o' n
series_of_whole {buffer} {o} {o'} {count} {n} below reported text r =
    subst (λ (t : List ℕ). SeriesReported t o o' n) (sym (read_whole r below)) reported

-- the buffer is full: every text that begins so is too long
pub series_of_full : {buffer o o' : List ℕ} {count n : ℕ} → text_limit < length buffer → length buffer ≤ count → Wrote o 0 (refused_line 8 0) o' n
    → SeriesRead buffer count o o' n
unfolding outcome_lines
series_of_full {buffer} {o} {o'} {count} {n} long full wrote text r =
    let over : long_text text ≡ true = lt-ltb text_limit (length text) (omega (arith, read_full r full)) in
    outcome_reported (refused 8 0)
    (subst (λ (b : Bool). cond b (◌≡◌ {A = Outcome Ended} (refused 8 0) (refused 8 0)) (SeriesIs text report_room (refused 8 0))) (sym over) refl)
    wrote

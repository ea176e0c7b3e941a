-- Two results that meet the promise of the call for a series are one: what it answers, how many entries its log holds, the counts of the last
-- step, and every lent number.
use Rattle.std.specs.Prelude.{ℕ, Bool, true, false, cond, ◌||◌, List, ◌≡◌, ℤ, length, Err, Ok, Result}
use Rattle.std.proofs.Common.{sym, ap, ◌∙◌, subst, arith}
use Rattle.meaning.specs.Scene.{Scene}
use Rattle.meaning.specs.Refusals.{Outcome, given, refused}
use Rattle.meaning.specs.List.{room_of}
use Rattle.meaning.specs.Text.{short_buffer, long_text}
use Rattle.meaning.specs.StoredBoxes.{short_boxes}
use Rattle.meaning.specs.Series.{last_step, Told}
use Rattle.meaning.specs.SeriesText.{Ended, SeriesIs, last_step_left, list_left}
use Rattle.list_boxes.specs.Once.{one_filling}
use Rattle.series_demands.specs.OneSeries.{one_outcome}
use Rattle.meaning.specs.SeriesAnswers.{told_says, outcome_says, answer_says}
use Rattle.meaning.specs.declared.SeriesTold.{SeriesTold}
use Rattle.meaning.specs.declared.SeriesAnswer.{SeriesAnswer}
use Rattle.meaning.specs.SeriesCall.{BoxedSeries, told_part, ToldWhole, counts_part, counts_said, FillsLast, SeriesCalled}
use Rattle.meaning.specs.declared.Refused.{Refused}
use Rattle.meaning.specs.declared.SceneCounts.{SceneCounts}

pub one_boxed : (text : List ℕ) (lent : Scene) (b : List ℤ) (room : ℕ) (o o' : Outcome Ended) → BoxedSeries text lent b room o → BoxedSeries text lent b room o'
    → o ≡ o'
one_boxed text lent b room o o' = by_buffers (short_boxes b || short_buffer lent) (long_text text)
  where
    by_buffers : (x y : Bool) → cond x (o ≡ refused 12 0) (cond y (o ≡ refused 8 0) (SeriesIs text room o))
        → cond x (o' ≡ refused 12 0) (cond y (o' ≡ refused 8 0) (SeriesIs text room o')) → o ≡ o'
    by_buffers true y h k = h ∙ sym k
    by_buffers false true h k = h ∙ sym k
    by_buffers false false h k = one_outcome text room o o' h k

fills_one : (o : Outcome Ended) (b b₁ b₂ : List ℤ) → FillsLast o b b₁ → FillsLast o b b₂ → b₁ ≡ b₂
unfolding FillsLast
fills_one (given e) b b₁ b₂ h k = one_filling (last_step e.series) h k
fills_one (refused n c) b b₁ b₂ h k = h ∙ sym k

-- nothing is told of a text that is refused, nor refused of one that is told
pub told_refused : {A P : Type 0} {a : A} {n c : ℕ} → given a ≡ refused n c → P
told_refused e = let bad : ◌≡◌ {A = ℕ} 0 1 = cc in absurd (omega arith)

-- what is told, also after a refusal
told_one : (q q' : Result SceneCounts Refused) (t t' : SeriesTold) → outcome_says q (told_says t) ≡ outcome_says q' (told_says t') → ToldWhole q t → ToldWhole q' t'
    → (told_says t ≡ told_says t') × (t.log.held ≡ t'.log.held)
unfolding outcome_says ToldWhole
told_one (Ok c) (Ok c') t t' e h k =
    let same : told_says t ≡ told_says t' = cc in
    (same, h.held ∙ ap (λ (u : Told). length u.log) same ∙ sym k.held)
told_one (Ok c) (Err f) t t' e h k = told_refused e
told_one (Err f) (Ok c) t t' e h k = told_refused (sym e)
told_one (Err f) (Err g) t t' e h k =
    let same : t ≡ t' = h ∙ sym k in
    (ap told_says same, ap (λ (u : SeriesTold). u.log.held) same)

pub record Same (left left' : Scene) (b b' : List ℤ) (l l' : List ℕ) (r r' : SeriesAnswer) : Type 0 where
  pub answer : answer_says r ≡ answer_says r'
  pub told : told_says r.told ≡ told_says r'.told
  pub held : r.told.log.held ≡ r'.told.log.held
  pub counts : counts_said r.outcome ≡ counts_said r'.outcome
  pub scene : left ≡ left'
  pub boxes : b ≡ b'
  pub list : l ≡ l'

pub one_telling : {text : List ℕ} {lent left₁ left₂ : Scene} {b b₁ b₂ : List ℤ} {l l₁ l₂ : List ℕ} {r₁ r₂ : SeriesAnswer}
    → SeriesCalled text lent left₁ b b₁ l l₁ r₁ → SeriesCalled text lent left₂ b b₂ l l₂ r₂ → Same left₁ left₂ b₁ b₂ l₁ l₂ r₁ r₂
one_telling {text} {lent} {left₁} {left₂} {b} {b₁} {b₂} {l} {l₁} {l₂} {r₁} {r₂} h k =
    let o : h.outcome ≡ k.outcome = one_boxed text lent b (room_of l) h.outcome k.outcome h.right k.right in
    let answer : answer_says r₁ ≡ answer_says r₂ = h.says ∙ ap told_part o ∙ sym k.says in
    let (told, held) = told_one r₁.outcome r₂.outcome r₁.told r₂.told answer h.whole k.whole in
    record {
      answer = answer;
      told = told;
      held = held;
      counts = h.counts ∙ ap counts_part o ∙ sym k.counts;
      scene = h.leaves ∙ ap (λ (z : Outcome Ended). last_step_left z lent) o ∙ sym k.leaves;
      boxes = fills_one k.outcome b b₁ b₂ (subst (λ (z : Outcome Ended). FillsLast z b b₁) o h.boxes) k.boxes;
      list = h.list ∙ ap (λ (z : Outcome Ended). list_left z l) o ∙ sym k.list;
    }

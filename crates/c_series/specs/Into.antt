-- A series told into lent arrays.
use Rattle.std.specs.Prelude.{ℕ, ◌≤◌, List, [], ◌∷◌, ◌≡◌, ℤ, take, Err, Ok, Result}
use Rattle.std.proofs.Math.Path.{sym}
use Rattle.std.proofs.Common.{ap, ◌∙◌, subst}
use Rattle.sequences.specs.Wrote.{written}
use Rattle.meaning.specs.Scene.{Scene}
use Rattle.meaning.specs.Series.{log_limit}
use Rattle.meaning.specs.declared.SceneCounts.{SceneCounts}
use Rattle.meaning.specs.declared.Refusal.{Refusal}
use Rattle.series_log.specs.Kept.{held_few}
use Rattle.meaning.specs.SeriesCall.{ToldWhole, SeriesCounted}
use Rattle.meaning.specs.declared.SeriesListed.{SeriesListed}
use Rattle.meaning.specs.SeriesNumbers.{rows_of, told_numbers, refused_number}
use Rattle.meaning.specs.SeriesNumbers.{answer_number, series_counts, log_left, numbers_left, SeriesInto}
use Rattle.meaning.specs.declared.Refused.{Refused}
use Rattle.meaning.specs.Refusals.{carrying}

-- a log that is told has room for what it holds
pub told_few : {text : List ℕ} {lent left : Scene} {b b' : List ℤ} {l l' : List ℕ} (all : SeriesListed) {k : SceneCounts}
    → SeriesCounted text lent left b b' l l' all → all.answer.outcome ≡ Ok k → all.answer.told.log.held ≤ log_limit
unfolding ToldWhole
told_few all h e = held_few (subst (λ (o : Result SceneCounts Refused). ToldWhole o all.answer.told) e h.called.whole)

module _ {text : List ℕ} {lent left : Scene} {b b' : List ℤ} {l l' c rows told : List ℕ} (all : SeriesListed)
    (h : SeriesCounted text lent left b b' l l' all) where
  pub into_refused : {f : Refusal} {k r : ℕ} → all.answer.outcome ≡ Err (carrying f k) → r ≡ refused_number f k
      → SeriesInto text lent left b b' l l' c c rows rows told told r
  unfolding answer_number series_counts log_left numbers_left
  into_refused e is =
      record {
        all = all;
        right = h;
        is = is ∙ sym (ap (λ (o : Result SceneCounts Refused). answer_number o all.count) e);
        counts = sym (ap (λ (o : Result SceneCounts Refused). series_counts o c) e);
        log = sym (ap (λ (o : Result SceneCounts Refused). log_left o all.answer.told rows) e);
        numbers = sym (ap (λ (o : Result SceneCounts Refused). numbers_left o all.answer.told told) e);
      }

  pub into_told : {c' rows' told' : List ℕ} {k : SceneCounts} {r : ℕ} → all.answer.outcome ≡ Ok k → r ≡ all.count
      → c' ≡ k.vertices ∷ k.edges ∷ k.triangles ∷ k.seams ∷ []
      → rows' ≡ written (rows_of (take all.answer.told.log.held all.answer.told.log.hits)) rows
      → told' ≡ told_numbers all.answer.told
      → SeriesInto text lent left b b' l l' c c' rows rows' told told' r
  unfolding answer_number series_counts log_left numbers_left
  into_told e is counts log numbers =
      record {
        all = all;
        right = h;
        is = is ∙ sym (ap (λ (o : Result SceneCounts Refused). answer_number o all.count) e);
        counts = counts ∙ sym (ap (λ (o : Result SceneCounts Refused). series_counts o c) e);
        log = log ∙ sym (ap (λ (o : Result SceneCounts Refused). log_left o all.answer.told rows) e);
        numbers = numbers ∙ sym (ap (λ (o : Result SceneCounts Refused). numbers_left o all.answer.told told) e);
      }

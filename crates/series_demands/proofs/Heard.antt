-- The rows of a call that tells a series are the log of the series, and all that is heard of it is what the text has.
use Rattle.std.specs.Prelude.{ℕ, ◌%◌, ◌<◌, ◌≡◌, refl, ℤ, length, take, Err, Ok, Result}
use mathlib.Core.List.{List, [], ◌∷◌, ◌++◌, map, Memᴰ}
use Rattle.std.proofs.Common.{sym, ◌∙◌, subst, arith}
use Rattle.std.proofs.Math.Path.{ap}
use Rattle.sequences.specs.Wrote.{written}
use Rattle.meaning.specs.Scene.{Scene}
use Rattle.meaning.specs.Refusals.{Outcome, given, refused, number_of}
use Rattle.meaning.specs.List.{pair, place_step, number, room_of}
use Rattle.meaning.specs.Series.{HitAt, hit_at, Told}
use Rattle.meaning.specs.SeriesText.{Ended}
use Rattle.meaning.specs.declared.SceneCounts.{SceneCounts}
use Rattle.list_entries.specs.Entries.{pair_of, number_back}
use Rattle.meaning.specs.SeriesAnswers.{hit_of, entries_of}
use Rattle.meaning.specs.SeriesAnswers.{told_says, outcome_says}
use Rattle.meaning.specs.declared.StepHit.{StepHit}
use Rattle.meaning.specs.declared.SeriesTold.{SeriesTold}
use Rattle.meaning.specs.SeriesCall.{BoxedSeries, told_part, ToldWhole, counts_said, last_count}
use Rattle.meaning.specs.SeriesNumbers.{row_step, rows_of}
use Rattle.meaning.specs.SeriesNumbers.{SeriesInto, answer_number, series_counts, log_left, numbers_left}
use Rattle.series_demands.specs.OneCall.{told_refused}
use Rattle.meaning.specs.Numbers.{upper, number_for}
use Rattle.answers.specs.Speaking.{number_in_table}
use Rattle.c_numbers.specs.Small.{line_in}
use Rattle.c_numbers.specs.Back.{heard, count, Clear, heard_number}
use Rattle.series_demands.specs.Few.{Fits, last_few, TextOf, carries_few, told_text}
use Rattle.series_demands.proofs.Few.{logged_fits}
use Rattle.series_demands.specs.Heard.{hit_rows, hits_of_rows, rows_after, last_counted, counts_after, numbers_after, SeriesHeard}
use Rattle.meaning.specs.declared.Refused.{Refused}

rows_whole : (hs : List StepHit) → ((h : HitAt) → Memᴰ h (map hit_of hs) → Fits h) → rows_of hs ≡ hit_rows (map hit_of hs)
unfolding rows_of hit_rows
rows_whole [] all = refl
rows_whole (h ∷ hs) all =
    let fits : Fits (hit_of h) = all (hit_of h) (Memᴰ.head refl) in
    let step : row_step h ≡ h.step = omega (arith, fits.step) in
    let first : h.first % place_step ≡ h.first = omega (arith, fits.places.first_narrow) in
    let second : h.second % place_step ≡ h.second = omega (arith, fits.places.second_narrow) in
    let rest : rows_of hs ≡ hit_rows (map hit_of hs) = rows_whole hs (λ g m. all g (Memᴰ.tail m)) in
    λ i. step i ∷ number (pair h.kind (first i) (second i)) ∷ rest i

rows_back : (hs : List HitAt) (rest : List ℕ) → ((h : HitAt) → Memᴰ h hs → Fits h) → hits_of_rows (length hs) (hit_rows hs ++ rest) ≡ hs
unfolding hits_of_rows hit_rows
rows_back [] rest all = refl
rows_back (h ∷ hs) rest all =
    let own : pair_of (number h.pair) ≡ h.pair = number_back h.pair (all h (Memᴰ.head refl)).places in
    let more : hits_of_rows (length hs) (hit_rows hs ++ rest) ≡ hs = rows_back hs rest (λ g m. all g (Memᴰ.tail m)) in
    λ i. hit_at h.step (own i) ∷ more i

counts_are : (q : Result SceneCounts Refused) (l : List ℕ) → series_counts q l ≡ counts_after (counts_said q) l
unfolding series_counts counts_after counts_said
counts_are (Ok c) l = refl
counts_are (Err f) l = refl

module _ {text : List ℕ} {e : Ended} (x : TextOf text e) where
  log_fits : (h : HitAt) → Memᴰ h e.told.log → Fits h
  log_fits h m = logged_fits x.holds x.brief x.right h m

  log_rows : (t : SeriesTold) → told_says t ≡ e.told → rows_of (take t.log.held t.log.hits) ≡ hit_rows e.told.log
  log_rows t same =
      let entries : entries_of t.log ≡ e.told.log = ap (λ (u : Told). u.log) same in
      rows_whole (take t.log.held t.log.hits) (λ h m. log_fits h (subst (Memᴰ h) entries m)) ∙ ap hit_rows entries

rows_are : {text : List ℕ} (q : Result SceneCounts Refused) (o : Outcome Ended) (t : SeriesTold) (rows : List ℕ) → outcome_says q (told_says t) ≡ told_part o
    → ((e : Ended) → o ≡ given e → TextOf text e)
    → log_left q t rows ≡ rows_after o rows
unfolding outcome_says told_part log_left rows_after
rows_are (Ok c) (given e) t rows says p =
    let same : told_says t ≡ e.told = cc in
    ap (λ (l : List ℕ). written l rows) (log_rows (p e refl) t same)
rows_are (Ok c) (refused n k) t rows says p = told_refused says
rows_are (Err f) (given e) t rows says p = told_refused (sym says)
rows_are (Err f) (refused n c) t rows says p = refl

number_is : (q : Result SceneCounts Refused) (o : Outcome Ended) (t : Told) (m : ℕ) → outcome_says q t ≡ told_part o → m ≡ last_count o → line_in o < upper
    → answer_number q m ≡ number_for count (last_counted o)
unfolding outcome_says told_part answer_number number_for last_counted last_count line_in
number_is (Ok c) (given e) t m says is few = is
number_is (Ok c) (refused n k) t m says is few = told_refused says
number_is (Err f) (given e) t m says is few = told_refused (sym says)
number_is (Err f) (refused n c) t m says is few =
    let same : number_of f.why ≡ n = cc in
    let carried : f.carries ≡ c = cc in
    omega (arith, same, carried, few)

number_clear : {text : List ℕ} (q : Result SceneCounts Refused) (o : Outcome Ended) (t : Told) → outcome_says q t ≡ told_part o → ((e : Ended) → o ≡ given e → TextOf text e)
    → line_in o < upper
    → Clear count count (last_counted o)
unfolding outcome_says told_part last_counted Clear line_in
number_clear q (given e) t says p few = (last_few (p e refl).holds, refl)
number_clear (Ok c) (refused n k) t says p few = told_refused says
number_clear (Err f) (refused n c) t says p few =
    let same : number_of f.why ≡ n = cc in
    (omega (arith, same, (number_in_table f.why).some), few)

numbers_are : (q : Result SceneCounts Refused) (t : SeriesTold) (l : List ℕ) → ToldWhole q t → numbers_left q t l ≡ numbers_after (outcome_says q (told_says t)) l
unfolding ToldWhole numbers_left numbers_after outcome_says
numbers_are (Ok c) t l whole =
    ap (λ (n : ℕ). n ∷ t.log.later ∷ t.listed ∷ t.hits ∷ t.misses ∷ t.touches ∷ t.aparts ∷ t.first ∷ []) whole.held
numbers_are (Err f) t l whole = refl

module _ {text : List ℕ} {lent left : Scene} {b b' : List ℤ} {l l' c c' rows rows' told told' : List ℕ} {r : ℕ}
    (h : SeriesInto text lent left b b' l l' c c' rows rows' told told' r) where
  pub series_heard : SeriesHeard text lent b l c c' rows rows' told told' r
  unfolding rows_after told_part
  series_heard =
      let k = h.right.called in
      let q : Result SceneCounts Refused = h.all.answer.outcome in
      let t : SeriesTold = h.all.answer.told in
      let o : Outcome Ended = k.outcome in
      let few : line_in o < upper = carries_few text lent b (room_of l) o k.right in
      let text_of : (e : Ended) → o ≡ given e → TextOf text e =
      λ e is. told_text text lent b (room_of l) e (subst (BoxedSeries text lent b (room_of l)) is k.right) in
      let number : r ≡ number_for count (last_counted o) = h.is ∙ number_is q o (told_says t) h.all.count k.says h.right.count few in
      let log : rows' ≡ rows_after o rows = h.log ∙ rows_are q o t rows k.says text_of in
      record {
        outcome = o;
        right = k.right;
        number = number;
        hears = ap (heard count) number
            ∙ heard_number count count (last_counted o) (number_clear q o (told_says t) k.says text_of few);
        log = log;
        again = λ e is.
            ap (hits_of_rows (length e.told.log)) (log ∙ ap (λ (z : Outcome Ended). rows_after z rows) is)
            ∙ rows_back e.told.log _ (log_fits (text_of e is));
        counts = h.counts ∙ counts_are q c ∙ ap (λ (z : Outcome SceneCounts). counts_after z c) k.counts;
        numbers = h.numbers ∙ numbers_are q t told k.whole ∙ ap (λ (z : Outcome Told). numbers_after z told) k.says;
      }

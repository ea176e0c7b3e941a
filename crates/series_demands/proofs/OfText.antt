-- Of a text that is a series with room for every step the rows are the log of that series, and the number is the count of the last list.
use Rattle.std.specs.Prelude.{ℕ, ◌≤◌, false, ◌||◌, ◌≡◌, refl, ℤ, length}
use mathlib.Core.List.{List}
use Rattle.std.proofs.Math.Path.{ap, subst}
use Rattle.std.proofs.Common.{◌∙◌}
use borrow.Author.Tests.{le-ltb}
use Rattle.sequences.specs.Wrote.{written}
use Rattle.meaning.specs.Limits.{text_limit}
use Rattle.meaning.specs.Scene.{Scene}
use Rattle.meaning.specs.Refusals.{Outcome, given}
use Rattle.meaning.specs.List.{room_of}
use Rattle.meaning.specs.Text.{short_buffer}
use Rattle.meaning.specs.StoredBoxes.{short_boxes}
use Rattle.meaning.specs.Series.{Series, steps_of, HitAt, hits_of, log_of, Told, ToldRight}
use Rattle.meaning.specs.SeriesText.{HoldsSeries, Ended, SeriesIs, read}
use Rattle.series_walk.specs.Telling.{first_over, over_gives}
use Rattle.meaning.specs.SeriesCall.{BoxedSeries}
use Rattle.meaning.specs.SeriesNumbers.{SeriesInto}
use Rattle.series_demands.specs.OneCall.{one_boxed}
use Rattle.series_demands.specs.Demand1Call.{demand1_series_told}
use Rattle.meaning.specs.Numbers.{number_for}
use Rattle.c_numbers.specs.Back.{count}
use Rattle.series_demands.specs.Heard.{hit_rows, rows_after, hits_of_rows, last_counted}
use Rattle.series_demands.proofs.Heard.{series_heard}
use Rattle.series_demands.specs.OfText.{LogHeard}

module _ {text : List ℕ} {lent left : Scene} {b b' : List ℤ} {l l' c c' rows rows' told told' : List ℕ} {r : ℕ}
    (h : SeriesInto text lent left b b' l l' c c' rows rows' told told' r) where
  pub log_heard : short_boxes b || short_buffer lent ≡ false → length text ≤ text_limit → (x : Series) → HoldsSeries text x
      → first_over (room_of l) (steps_of x) ≡ 0
      → LogHeard x rows rows' r
  unfolding rows_after last_counted number_for
  log_heard wide brief x k room =
      let all = demand1_series_told h.right.called wide brief x k room in
      let e : Ended = record { series = x; told = all.told } in
      let is : SeriesIs text (room_of l) (given e) =
      read x k (over_gives (room_of l) (λ (z : Ended). (z.series ≡ x) × ToldRight x z.told) (steps_of x) e room (refl, all.right)) in
      let boxed : BoxedSeries text lent b (room_of l) (given e) = rw (wide, le-ltb text_limit (length text) brief) is in
      let g = series_heard h in
      let o : g.outcome ≡ given e = one_boxed text lent b (room_of l) g.outcome (given e) g.right boxed in
      let same : all.told.log ≡ log_of (hits_of x all.right.words) = ap (λ (t : Told). t.log) all.right.told in
      record {
        words = all.right.words;
        settled = all.right.settled;
        log = g.log ∙ ap (λ (z : Outcome Ended). rows_after z rows) o ∙ ap (λ (hs : List HitAt). written (hit_rows hs) rows) same;
        again = subst (λ (hs : List HitAt). hits_of_rows (length hs) rows' ≡ hs) same (g.again e o);
        number = g.number ∙ ap (λ (z : Outcome Ended). number_for count (last_counted z)) o;
      }

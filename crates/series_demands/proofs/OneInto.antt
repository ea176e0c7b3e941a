-- Two results that meet the promise of a series told in numbers are one.
use Rattle.std.specs.Prelude.{ℕ, List, ◌≡◌, ℤ}
use Rattle.std.proofs.Common.{sym, ap, ◌∙◌}
use Rattle.meaning.specs.Scene.{Scene}
use Rattle.meaning.specs.Refusals.{Outcome}
use Rattle.meaning.specs.List.{room_of}
use Rattle.meaning.specs.SeriesText.{Ended}
use Rattle.meaning.specs.SeriesCall.{told_part, counts_part}
use Rattle.meaning.specs.SeriesNumbers.{SeriesInto}
use Rattle.series_demands.specs.OneCall.{one_boxed, one_telling}
use Rattle.meaning.specs.Numbers.{number_for}
use Rattle.c_numbers.specs.Back.{count}
use Rattle.series_demands.specs.Heard.{rows_after, last_counted, counts_after, numbers_after}
use Rattle.series_demands.proofs.Heard.{series_heard}
use Rattle.series_demands.specs.OneInto.{SameInto}

pub one_into : {text : List ℕ} {lent left₁ left₂ : Scene} {b b₁ b₂ : List ℤ} {l l₁ l₂ c c₁ c₂ rows rows₁ rows₂ told told₁ told₂ : List ℕ} {r₁ r₂ : ℕ}
    → SeriesInto text lent left₁ b b₁ l l₁ c c₁ rows rows₁ told told₁ r₁
    → SeriesInto text lent left₂ b b₂ l l₂ c c₂ rows rows₂ told told₂ r₂
    → SameInto r₁ r₂ left₁ left₂ b₁ b₂ l₁ l₂ c₁ c₂ rows₁ rows₂ told₁ told₂
one_into {text} {lent} {left₁} {left₂} {b} {b₁} {b₂} {l} {l₁} {l₂} {c} {c₁} {c₂} {rows} {rows₁} {rows₂} {told} p q =
    let h = series_heard p in
    let k = series_heard q in
    let o : h.outcome ≡ k.outcome = one_boxed text lent b (room_of l) h.outcome k.outcome h.right k.right in
    let same = one_telling p.right.called q.right.called in
    record {
      number = h.number ∙ ap (λ (z : Outcome Ended). number_for count (last_counted z)) o ∙ sym k.number;
      scene = same.scene;
      boxes = same.boxes;
      list = same.list;
      counts = h.counts ∙ ap (λ (z : Outcome Ended). counts_after (counts_part z) c) o ∙ sym k.counts;
      log = h.log ∙ ap (λ (z : Outcome Ended). rows_after z rows) o ∙ sym k.log;
      numbers = h.numbers ∙ ap (λ (z : Outcome Ended). numbers_after (told_part z) told) o ∙ sym k.numbers;
    }

-- What one step over a line promises: the line's fault, or the record that it holds.
use Rattle.std.specs.Prelude.{Option, Some, None, Result, Ok, Err, Bool, List, ◌≡◌, ℕ, ◌<◌, length, drop}
use Rattle.std.proofs.Math.Path.{refl, ap}
use Rattle.std.proofs.Common.{sym, ◌∙◌}
use Rattle.sequences.specs.Stands.{stands_from}
use Rattle.sequences.specs.Parts.{some_left}
use Rattle.meaning.specs.Scene.{Scene}
use Rattle.meaning.specs.Refusals.{given, refused, number_of, outcome_alone}
use Rattle.meaning.specs.Lines.{unformed, misplaced}
use Rattle.meaning.specs.Text as Text
use Rattle.meaning.specs.Text.{Entry, numbers_of, line_of}
use Rattle.meaning.specs.declared.Refusal.{Refusal}
use Rattle.meaning.specs.declared.Refusal.TheVariants.{BadLine}
use Rattle.meaning.specs.declared.SceneCounts.{SceneCounts}
use Rattle.text_line.specs.Reading.{sort_of, LineGot, LineRead}
use Rattle.text_line.specs.Above.{Above, counted_by}
use Rattle.text_line.specs.Judging.{Judging, Begun, begun_refused, entry_begun}
use Rattle.text_line.specs.declared.Sort.{Sort}
use Rattle.text_line.specs.declared.Line.{Line}
use Rattle.text_line.specs.declared.Step.{Step}

-- a record stands here, and it is not at fault; of a seam, not before 15
pub record Took (text : List ℕ) (at : ℕ) (s : Scene) (c : SceneCounts) (sizes : List ℕ) (minus : List Bool) (sort : Sort) (after : SceneCounts) (next : ℕ) : Type 0 where
  pub line : LineGot text at sizes minus sort next
  pub begun : Begun s line.entry (given tt)
  pub adds : after ≡ counted_by c (sort_of line.entry)

unfoldable pub Stepped : List ℕ → ℕ → Scene → SceneCounts → List ℕ → List Bool → Result Step Refusal → Type 0
Stepped text at s c sizes minus (Err r) = Text.SceneFault s (drop at text) (number_of r)
Stepped text at s c sizes minus (Ok step) = Took text at s c sizes minus step.sort step.counts step.next

-- below any scene with these counts
abbrev pub LineStepped : List ℕ → ℕ → SceneCounts → List ℕ → List Bool → Result Step Refusal → Type 0
LineStepped text at c sizes minus r = (s : Scene) → Above s c → Stepped text at s c sizes minus r

module _ (text : List ℕ) (at : ℕ) (c : SceneCounts) (sizes : List ℕ) (minus : List Bool) where
  pub step_bad : {l : Option Line} → at < length text → LineRead text at sizes minus l → l ≡ None
      → LineStepped text at c sizes minus (Err BadLine)
  unfolding Stepped LineRead number_of
  step_bad {l} h a e s above =
      let none : LineRead text at sizes minus None = rw e at a in
      unformed refl (some_left text at h) (λ r rest short q. none r _ short (stands_from text at (line_of r) rest q))

  pub step_fault : {l : Option Line} {j : Result (Unit {0}) Refusal} {line : Line} {f : Refusal} → LineRead text at sizes minus l → l ≡ Some line
      → Judging line.sort c sizes (outcome_alone j) → j ≡ Err f
      → LineStepped text at c sizes minus (Err f)
  unfolding Stepped LineRead outcome_alone
  step_fault {line} {f} a e b d s above =
      let got : LineRead text at sizes minus (Some line) = rw e at a in
      let judged : Judging line.sort c sizes (outcome_alone (Err f)) = rw d at b in
      misplaced got.entry (drop line.next text) got.short got.stands.here
      (begun_refused s (number_of f) 0 got.entry (entry_begun c sizes (refused (number_of f) 0) got.entry got.sorted got.front.sized judged s above))

  pub step_good : {l : Option Line} {j : Result (Unit {0}) Refusal} {line : Line} {t : Unit {0}} {after : SceneCounts} → LineRead text at sizes minus l → l ≡ Some line
      → Judging line.sort c sizes (outcome_alone j) → j ≡ Ok t → after ≡ counted_by c line.sort
      → LineStepped text at c sizes minus (Ok (record { sort = line.sort; counts = after; next = line.next }))
  unfolding Stepped LineRead outcome_alone
  step_good {line} {t} a e b d n s above =
      let got : LineRead text at sizes minus (Some line) = rw e at a in
      let judged : Judging line.sort c sizes (outcome_alone (Ok t)) = rw d at b in
      record {
        line = got;
        begun = entry_begun c sizes (given tt) got.entry got.sorted got.front.sized judged s above;
        adds = n ∙ ap (counted_by c) (sym got.sorted);
      }

-- What the first pass promises, and how it goes on from line to line.
use Rattle.std.specs.Prelude.{Bool, ◌≡◌, refl, ℕ, ◌+◌, ◌≤◌, ◌<◌, drop, Err, Ok, Result}
use mathlib.Core.List.{List}
use Rattle.std.proofs.Math.Path.{sym, ap}
use Rattle.std.proofs.Common.{◌∙◌, arith}
use Rattle.std.proofs.Math.ListN.{length}
use Rattle.meaning.specs.Scene.{Scene}
use Rattle.meaning.specs.Refusals.{Outcome, given, refused, number_of, carrying, outcome_of}
use Rattle.meaning.specs.Lines as Lines
use Rattle.meaning.specs.Lines.{LinesAre}
use Rattle.meaning.specs.Claims.{Claim, claim_lines}
use Rattle.meaning.specs.declared.Refusal.{Refusal}
use Rattle.text_laws.specs.Going.{Reached, reached_first, reached_none, reached_next, reached_longer, reached_fault, reached_end}
use Rattle.claim_line.specs.Rendered.{claims_readable}
use Rattle.claim_line.specs.Stepping.{Stepped, Took}
use Rattle.claim_line.specs.declared.Line.{Line}
use Rattle.meaning.specs.declared.Refused.{Refused}

-- how many claims there are, or the first faulty line
unfoldable pub count_told : Outcome (List Claim) → Outcome ℕ
count_told (given cs) = given (length cs)
count_told (refused n line) = refused n line

pub record Inspected (s : Scene) (text : List ℕ) (r : Result ℕ Refused) : Type 0 where
  pub outcome : Outcome (List Claim)
  pub right : LinesAre (claim_lines s) tt text outcome
  pub says : outcome_of r ≡ count_told outcome

-- the lines before the place are claims, none at fault, and they are counted
pub record Inspecting (s : Scene) (text : List ℕ) (count at : ℕ) : Type 0 where
  pub reached : Reached (claim_lines s) tt text tt at
  pub counted : count ≡ length reached.above
  pub few : count ≤ at

pub inspect_starts : (s : Scene) (text : List ℕ) → Inspecting s text 0 0
inspect_starts s text =
    record { reached = start; counted = sym (reached_none (claim_lines s) tt text); few = omega arith }
  where
    start : Reached (claim_lines s) tt text tt 0
    start = reached_first (claim_lines s) tt text

module _ {s : Scene} {text : List ℕ} {count at : ℕ} (i : Inspecting s text count at) where
  pub inspect_goes : {r : Result Line Refusal} (sizes : List ℕ) (minus : List Bool) {line : Line} → Stepped s text at sizes minus r → r ≡ Ok line
      → Inspecting s text (count + 1) line.next × (at < line.next)
  unfolding Stepped
  inspect_goes sizes minus {line} w e =
      let took : Took s text at sizes minus line.kind line.next = rw e at w in
      let c : Claim = took.line.claim in
      let on = reached_next i.reached (claims_readable s) c took.line.formed took.good took.line.stands in
      let more : length on.0.above ≡ length i.reached.above + 1 =
      reached_longer i.reached (claims_readable s) c took.line.formed took.good took.line.stands in
      (record { reached = on.0; counted = ap (λ (n : ℕ). n + 1) i.counted ∙ sym more; few = omega (arith, i.few, on.1) }, on.1)

  pub inspect_fails : {r : Result Line Refusal} (sizes : List ℕ) (minus : List Bool) {f : Refusal} → Stepped s text at sizes minus r → r ≡ Err f
      → Inspected s text (Err (carrying f (count + 1)))
  unfolding Stepped LinesAre outcome_of count_told
  inspect_fails sizes minus {f} w e =
      let fault : Lines.Fault (claim_lines s) tt (drop at text) (number_of f) = rw e at w in
      record {
        outcome = refused (number_of f) (count + 1);
        right = reached_fault i.reached fault (ap (λ (n : ℕ). n + 1) i.counted);
        says = refl;
      }

  pub inspect_ends : length text ≤ at → Inspected s text (Ok count)
  unfolding LinesAre outcome_of count_told
  inspect_ends h =
      record {
        outcome = given i.reached.above;
        right = reached_end i.reached h;
        says = ap given i.counted;
      }

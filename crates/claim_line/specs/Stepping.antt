-- What one step over a line promises: the line's fault, or the claim that it holds.
use Rattle.std.specs.Prelude.{Option, Some, None, Result, Ok, Err, Bool, true, false, List, ◌≡◌, ℕ, ◌<◌, leb, length, get_or, drop}
use Rattle.std.proofs.Math.Path.{refl}
use Rattle.std.proofs.Common.{arith}
use Rattle.sequences.specs.Stands.{stands_from}
use Rattle.sequences.specs.Parts.{some_left}
use Rattle.answers.specs.Answering.{refuses, lets_pass, gives}
use Rattle.text_fields.specs.Tabbed.{sized_at}
use Rattle.meaning.specs.Scene.{Scene}
use Rattle.meaning.specs.Pieces.{piece_count}
use Rattle.meaning.specs.Refusals.{Outcome, given, refused, number_of, Answers, not_there, shares, piece_asked, outcome_alone}
use Rattle.meaning.specs.Lines as Lines
use Rattle.meaning.specs.Lines.{unformed, misplaced}
use Rattle.meaning.specs.Claims.{Claim, claim_line, claim_checks, claim_lines}
use Rattle.meaning.specs.declared.Kind.{Kind}
use Rattle.meaning.specs.declared.Refusal.{Refusal}
use Rattle.meaning.specs.declared.Refusal.TheVariants.{NotThere, SharedVertex, BadLine}
use Rattle.claim_line.specs.Rendered.{numbers_in, nine_numbers}
use Rattle.claim_line.specs.Reading.{ClaimGot, LineRead}
use Rattle.claim_line.specs.declared.Line.{Line}

-- ---- the judgement of a claim

abbrev pub ClaimJudged : Scene → Claim → Outcome (Unit {0}) → Type 0
ClaimJudged s c = Answers (claim_checks s c) (λ t. Unit {0})

abbrev pub AskedIs : Scene → Kind → ℕ → ℕ → ℕ → Outcome (Unit {0}) → Type 0
AskedIs s kind i j k = Answers (piece_asked s kind i j k) (λ t. Unit {0})

module _ (s : Scene) (kind : Kind) (i j k : ℕ) where
  pub no_place : not_there s kind i j ≡ true → AskedIs s kind i j k (outcome_alone (Err NotThere))
  unfolding outcome_alone number_of
  no_place h = refuses _ _ _ _ (rw h refl) refl

  pub no_piece : not_there s kind i j ≡ false → leb (piece_count kind) k ≡ true → AskedIs s kind i j k (outcome_alone (Err NotThere))
  unfolding outcome_alone number_of
  no_piece h p = refuses _ _ _ _ (rw (h, p) refl) refl

  module _ (there : not_there s kind i j ≡ false) (piece : leb (piece_count kind) k ≡ false) where
    pub shared : shares s kind i j ≡ true → AskedIs s kind i j k (outcome_alone (Err SharedVertex))
    unfolding outcome_alone number_of
    shared h = lets_pass _ _ _ _ (rw (there, piece) refl) (refuses _ _ _ _ h refl)

    pub asked_well : shares s kind i j ≡ false → AskedIs s kind i j k (outcome_alone (Ok tt))
    unfolding outcome_alone
    asked_well h = lets_pass _ _ _ _ (rw (there, piece) refl) (lets_pass _ _ _ _ h (gives (λ t. Unit {0}) tt tt))

-- ---- the promise

pub record Took (s : Scene) (text : List ℕ) (at : ℕ) (sizes : List ℕ) (minus : List Bool) (kind : Kind) (next : ℕ) : Type 0 where
  pub line : ClaimGot text at sizes minus kind next
  pub good : ClaimJudged s line.claim (given tt)

unfoldable pub Stepped : Scene → List ℕ → ℕ → List ℕ → List Bool → Result Line Refusal → Type 0
Stepped s text at sizes minus (Err r) = Lines.Fault (claim_lines s) tt (drop at text) (number_of r)
Stepped s text at sizes minus (Ok line) = Took s text at sizes minus line.kind line.next

-- the places and the piece, as they stand in the buffer
pub record Named (sizes : List ℕ) (c : Claim) : Type 0 where
  pub first : get_or sizes 0 0 ≡ c.first
  pub second : get_or sizes 1 0 ≡ c.second
  pub piece : get_or sizes 2 0 ≡ c.piece

module _ (s : Scene) (text : List ℕ) (at : ℕ) (sizes : List ℕ) (minus : List Bool) where
  pub named : {kind : Kind} {next : ℕ} (g : ClaimGot text at sizes minus kind next) → Named sizes g.claim
  named g =
      let nine : length (numbers_in g.claim) ≡ 9 = nine_numbers g.claim g.formed in
      record {
        first = sized_at (numbers_in g.claim) sizes 0 g.front.sized (omega arith);
        second = sized_at (numbers_in g.claim) sizes 1 g.front.sized (omega arith);
        piece = sized_at (numbers_in g.claim) sizes 2 g.front.sized (omega arith);
      }

  judged_claim : {kind : Kind} {next : ℕ} (g : ClaimGot text at sizes minus kind next) (o : Outcome (Unit {0}))
      → AskedIs s kind (get_or sizes 0 0) (get_or sizes 1 0) (get_or sizes 2 0) o → ClaimJudged s g.claim o
  judged_claim g o a = let n = named g in rw (g.kinded, ← n.first, ← n.second, ← n.piece) a

  pub step_bad : {l : Option Line} → at < length text → LineRead text at sizes minus l → l ≡ None
      → Stepped s text at sizes minus (Err BadLine)
  unfolding Stepped LineRead number_of
  step_bad {l} h a e =
      let none : LineRead text at sizes minus None = rw e at a in
      unformed refl (some_left text at h) (λ c rest formed q. none c _ formed (stands_from text at (claim_line c) rest q))

  module _ {l : Option Line} {j : Result (Unit {0}) Refusal} {line : Line} (a : LineRead text at sizes minus l) (e : l ≡ Some line)
      (b : AskedIs s line.kind (get_or sizes 0 0) (get_or sizes 1 0) (get_or sizes 2 0) (outcome_alone j)) where
    pub step_fault : {f : Refusal} → j ≡ Err f → Stepped s text at sizes minus (Err f)
    unfolding Stepped LineRead outcome_alone
    step_fault {f} d =
        let got : ClaimGot text at sizes minus line.kind line.next = rw e at a in
        let judged : AskedIs s line.kind (get_or sizes 0 0) (get_or sizes 1 0) (get_or sizes 2 0) (outcome_alone (Err f)) = rw d at b in
        misplaced got.claim (drop line.next text) got.formed got.stands.here (judged_claim got (refused (number_of f) 0) judged)

    pub step_good : {t : Unit {0}} → j ≡ Ok t → Stepped s text at sizes minus (Ok line)
    unfolding Stepped LineRead outcome_alone
    step_good {t} d =
        let got : ClaimGot text at sizes minus line.kind line.next = rw e at a in
        let judged : AskedIs s line.kind (get_or sizes 0 0) (get_or sizes 1 0) (get_or sizes 2 0) (outcome_alone (Ok t)) = rw d at b in
        record { line = got; good = judged_claim got (given tt) judged }

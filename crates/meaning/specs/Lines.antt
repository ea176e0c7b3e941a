-- A text made of lines, whatever its records are. A grammar says what stands in a line; from it follow the texts that are lines of records,
-- none of them at fault, and the first faulty line of any other text. 'Scene text' of document 01 is one grammar (Text).
use Rattle.std.specs.Prelude.{ℕ, ◌+◌, Bool, true, false, ◌≢◌, ◌≡◌, length}
use mathlib.Core.List.{List, [], ◌∷◌, ◌++◌, flat_map}
use Rattle.meaning.specs.Refusals.{Outcome, given, refused, Check, Answers}

pub record Grammar : Type 1 where
  -- what the records above a line come to
  pub State : Type 0
  pub Record : Type 0
  -- the bytes of a record's line, with the LF that ends it
  pub line : Record → List ℕ
  -- a line of this record may stand below records that come to this
  pub Formed : State → Record → Type 0
  -- what may be wrong with a record there, in the order of the checks; and whether its line is the text's last
  pub checks : State → Record → Bool → List Check
  -- what the records come to with this one
  pub after : State → Record → State

-- nothing stands below a line: it is the last
unfoldable pub nothing : List ℕ → Bool
nothing [] = true
nothing (b ∷ l) = false

module _ (g : Grammar) where
  abbrev pub RecordJudged : g.State → g.Record → Bool → Outcome (Unit {0}) → Type 0
  RecordJudged s r last = Answers (g.checks s r last) (λ t. Unit {0})

  abbrev pub lines_of : List g.Record → List ℕ
  lines_of rs = flat_map g.line rs

  unfoldable pub after_all : g.State → List g.Record → g.State
  after_all s [] = s
  after_all s (r ∷ rs) = after_all (g.after s r) rs

  -- each record has its form and is not at fault, given those above it; these bytes stand below them all
  unfoldable pub Sound : g.State → List g.Record → List ℕ → Type 0
  Sound s [] below = Unit
  Sound s (r ∷ rs) below =
      g.Formed s r × RecordJudged s r (nothing (lines_of rs ++ below)) (given tt) × Sound (g.after s r) rs below

  -- what is wrong at the front of a text: 9, the line there is no record's, or it has no LF; or it is a record's, and n is the first
  -- check that holds
  pub data Fault (s : g.State) (text : List ℕ) (n : ℕ) : Type 0 where
    unformed : n ≡ 9 → text ≢ [] → ((r : g.Record) (rest : List ℕ) → g.Formed s r → text ≡ g.line r ++ rest → ⊥)
        → Fault s text n
    misplaced : (r : g.Record) (rest : List ℕ) → g.Formed s r → text ≡ g.line r ++ rest
        → RecordJudged s r (nothing rest) (refused n 0)
        → Fault s text n

  -- a text of these records: their lines, none at fault, and nothing below
  pub record AllSound (s : g.State) (text : List ℕ) (rs : List g.Record) : Type 0 where
    pub sound : Sound s rs []
    pub lines : text ≡ lines_of rs

  -- the lines of records, none at fault, and below them the faulty line, counted from 1
  pub record FaultyAt (s : g.State) (text : List ℕ) (n line : ℕ) : Type 0 where
    pub above : List g.Record
    pub below : List ℕ
    pub sound : Sound s above below
    pub lines : text ≡ lines_of above ++ below
    pub place : line ≡ length above + 1
    pub fault : Fault (after_all s above) below n

  -- a text is the lines of records, or has a first faulty line
  unfoldable pub LinesAre : g.State → List ℕ → Outcome (List g.Record) → Type 0
  LinesAre s text (given rs) = AllSound s text rs
  LinesAre s text (refused n line) = FaultyAt s text n line

-- 'Cloth at rest': a degenerate piece is decided too, so that a piece and a pair have one of four words.
use Rattle.std.specs.Prelude.{ℕ, ◌<◌, Result}
use Rattle.meaning.specs.Scene.{Scene}
use Rattle.meaning.specs.Pieces.{Piece, piece_of, piece_count}
use Rattle.meaning.specs.Equations.{Touches}
use Rattle.meaning.specs.Verdicts.{PieceIs, SomePiece}
use Rattle.meaning.specs.Refusals.{Answers, pair_checks, piece_checks, outcome_alone}
use Rattle.meaning.specs.declared.Kind.{Kind}
use Rattle.meaning.specs.declared.Verdict.{Verdict}
use Rattle.meaning.specs.declared.Settled.{Settled}
use Rattle.meaning.specs.declared.Settled.TheVariants.{Hit, Miss, Touch, Apart}
use Rattle.meaning.specs.declared.Refusal.{Refusal}

-- hit and miss as before; a degenerate piece is touch if nonnegative weights exist, else apart
unfoldable pub PieceSettled : Piece → Settled → Type 0
PieceSettled p Hit = PieceIs p Verdict.Hit
PieceSettled p Miss = PieceIs p Verdict.Miss
PieceSettled p Touch = PieceIs p Verdict.Degenerate × Touches p
PieceSettled p Apart = PieceIs p Verdict.Degenerate × ¬ Touches p

-- some piece of the pair has the word
pub record SomeSettled (s : Scene) (kind : Kind) (i j : ℕ) (w : Settled) : Type 0 where
  pub which : ℕ
  pub there : which < piece_count kind
  pub has : PieceSettled (piece_of s kind i j which) w

-- a pair is hit, else touch if a degenerate piece touches, else apart if any piece is degenerate, else miss
unfoldable pub PairSettled : Scene → Kind → ℕ → ℕ → Settled → Type 0
PairSettled s kind i j Hit = SomeSettled s kind i j Hit
PairSettled s kind i j Touch = ¬ SomeSettled s kind i j Hit × SomeSettled s kind i j Touch
PairSettled s kind i j Apart =
    ¬ SomeSettled s kind i j Hit × ¬ SomeSettled s kind i j Touch × SomePiece s kind i j Verdict.Degenerate
PairSettled s kind i j Miss = ¬ SomeSettled s kind i j Hit × ¬ SomePiece s kind i j Verdict.Degenerate

-- what is promised of a pair asked for, and of a piece of a pair: the refusals are those of the three-case verdict
abbrev pub PairDecided : Scene → Kind → ℕ → ℕ → Result Settled Refusal → Type 0
PairDecided s kind i j r = Answers (pair_checks s kind i j) (PairSettled s kind i j) (outcome_alone r)

abbrev pub PieceDecided : Scene → Kind → ℕ → ℕ → ℕ → Result Settled Refusal → Type 0
PieceDecided s kind i j k r = Answers (piece_checks s kind i j k) (PieceSettled (piece_of s kind i j k)) (outcome_alone r)

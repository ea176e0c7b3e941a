-- The verdict of a piece and of a pair, as document 01 says it.
use Rattle.std.specs.Prelude.{ℕ, ◌<◌, ◌≡◌, ◌≢◌, pos}
use Rattle.meaning.specs.Scene.{Scene}
use Rattle.meaning.specs.Pieces.{Piece, piece_of, piece_count}
use Rattle.meaning.specs.Equations.{determinant_of, Touches}
use Rattle.meaning.specs.declared.Kind.{Kind}
use Rattle.meaning.specs.declared.Verdict.{Verdict}
use Rattle.meaning.specs.declared.Verdict.TheVariants.{Hit, Miss, Degenerate}

-- degenerate: the determinant of the six equations is 0; otherwise hit exactly when weights exist, else miss
unfoldable pub PieceIs : Piece → Verdict → Type 0
PieceIs p Degenerate = determinant_of p ≡ pos 0
PieceIs p Hit = (determinant_of p ≢ pos 0) × Touches p
PieceIs p Miss = (determinant_of p ≢ pos 0) × ¬ Touches p

-- some piece of the pair has the verdict
pub record SomePiece (s : Scene) (kind : Kind) (i j : ℕ) (v : Verdict) : Type 0 where
  pub which : ℕ
  pub there : which < piece_count kind
  pub has : PieceIs (piece_of s kind i j which) v

-- hit if any piece is hit; else degenerate if any piece is; else miss
unfoldable pub PairIs : Scene → Kind → ℕ → ℕ → Verdict → Type 0
PairIs s kind i j Hit = SomePiece s kind i j Hit
PairIs s kind i j Degenerate = ¬ SomePiece s kind i j Hit × SomePiece s kind i j Degenerate
PairIs s kind i j Miss = ¬ SomePiece s kind i j Hit × ¬ SomePiece s kind i j Degenerate

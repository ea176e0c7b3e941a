-- Two results that meet the promise are equal, refused calls too: the verdict of a pair and of a piece.
use Rattle.std.specs.Prelude.{ℕ, ◌≡◌, Result}
use Rattle.meaning.specs.Scene.{Scene}
use Rattle.meaning.specs.Pieces.{piece_of}
use Rattle.meaning.specs.Verdicts.{PieceIs, PairIs}
use Rattle.meaning.specs.Refusals.{pair_checks, piece_checks, PairJudged, PieceJudged, outcome_alone}
use Rattle.meaning.specs.declared.Kind.{Kind}
use Rattle.theory.specs.OneVerdict.{one_piece_verdict, one_pair_verdict}
use Rattle.answers.specs.Answering.{one_answer}
use Rattle.meaning.specs.declared.Refusal.{Refusal}
use Rattle.meaning.specs.declared.Verdict.{Verdict}
use Rattle.answers.specs.Speaking.{one_alone}

pub one_pair : (s : Scene) (kind : Kind) (i j : ℕ) (r r' : Result Verdict Refusal) → PairJudged s kind i j r → PairJudged s kind i j r' → r ≡ r'
one_pair s kind i j r r' p q =
    one_alone r r' (one_answer (PairIs s kind i j) (one_pair_verdict s kind i j) (pair_checks s kind i j) (outcome_alone r) (outcome_alone r') p q)

pub one_piece : (s : Scene) (kind : Kind) (i j k : ℕ) (r r' : Result Verdict Refusal) → PieceJudged s kind i j k r → PieceJudged s kind i j k r' → r ≡ r'
one_piece s kind i j k r r' p q =
    let piece = piece_of s kind i j k in
    one_alone r r' (one_answer (PieceIs piece) (one_piece_verdict piece) (piece_checks s kind i j k) (outcome_alone r) (outcome_alone r') p q)

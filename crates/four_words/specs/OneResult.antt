-- Two results that meet the promise are equal, refused calls too: the word of a pair and of a piece.
use Rattle.std.specs.Prelude.{ℕ, ◌≡◌, Result}
use Rattle.meaning.specs.Scene.{Scene}
use Rattle.meaning.specs.Pieces.{piece_of}
use Rattle.meaning.specs.Refusals.{pair_checks, piece_checks, outcome_alone}
use Rattle.meaning.specs.Resting.{PieceSettled, PairSettled, PairDecided, PieceDecided}
use Rattle.meaning.specs.declared.Kind.{Kind}
use Rattle.corner_search.specs.Decided.{one_piece_word, one_pair_word}
use Rattle.answers.specs.Answering.{one_answer}
use Rattle.meaning.specs.declared.Refusal.{Refusal}
use Rattle.meaning.specs.declared.Settled.{Settled}
use Rattle.answers.specs.Speaking.{one_alone}

pub one_settled_pair : (s : Scene) (kind : Kind) (i j : ℕ) (r r' : Result Settled Refusal) → PairDecided s kind i j r → PairDecided s kind i j r' → r ≡ r'
one_settled_pair s kind i j r r' p q =
    one_alone r r' (one_answer (PairSettled s kind i j) (one_pair_word s kind i j) (pair_checks s kind i j) (outcome_alone r) (outcome_alone r') p q)

pub one_settled_piece : (s : Scene) (kind : Kind) (i j k : ℕ) (r r' : Result Settled Refusal) → PieceDecided s kind i j k r → PieceDecided s kind i j k r' → r ≡ r'
one_settled_piece s kind i j k r r' p q =
    let piece = piece_of s kind i j k in
    one_alone r r' (one_answer (PieceSettled piece) (one_piece_word piece) (piece_checks s kind i j k) (outcome_alone r) (outcome_alone r') p q)

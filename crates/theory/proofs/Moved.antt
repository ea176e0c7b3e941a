-- Of `Moved`: what rests on its definitions.
use Rattle.std.specs.Prelude.{◌≡◌, ◌↔◌, ◌⊎◌, true, ℕ}
use Rattle.std.proofs.Common.{inl, inr}
use Rattle.whole.specs.Vector.{Vector}
use Rattle.whole.specs.VectorLaws.{Matrix}
use Rattle.meaning.specs.Scene.{Scene}
use Rattle.meaning.specs.Pieces.{piece_of}
use Rattle.meaning.specs.Verdicts.{PieceIs, PairIs}
use Rattle.meaning.specs.Resting.{PieceSettled, PairSettled}
use Rattle.meaning.specs.Boxes.{culled}
use Rattle.meaning.specs.declared.Kind.{Kind}
use Rattle.meaning.specs.declared.Verdict.{Verdict}
use Rattle.meaning.specs.declared.Verdict.TheVariants.{Hit}
use Rattle.meaning.specs.declared.Settled as Words
use Rattle.meaning.specs.declared.Settled.{Settled}
use Rattle.theory.specs.Cull.{culled_never_hit, culled_never_meets}
use Rattle.theory.specs.Alike.{Alike, alike_piece, piece_for_piece, alike_pair, alike_word, alike_pair_word}
use Rattle.theory.specs.SentPieces.{piece_alike}
use Rattle.theory.specs.Moved.{Moves, Known, piece_moves, NeverMeets}

module _ {m : Matrix} {a b : Vector} {s t : Scene} (h : Moves m a b s t) where
  module _ (kind : Kind) (i j : ℕ) (known : Known s kind i j) where
    pub moved_alike : (k : ℕ) → Alike (piece_of s kind i j k) (piece_of t kind i j k)
    moved_alike k = rw (piece_moves h kind i j known k) (piece_alike m a b h.nonzero s kind i j k)

    pub moved_keeps_pieces : (k : ℕ) (v : Verdict) → PieceIs (piece_of s kind i j k) v ↔ PieceIs (piece_of t kind i j k) v
    moved_keeps_pieces k v = alike_piece (moved_alike k) v

    pub moved_keeps_pairs : (v : Verdict) → PairIs s kind i j v ↔ PairIs t kind i j v
    moved_keeps_pairs v = alike_pair kind s t i j i j (piece_for_piece (λ k below. moved_alike k)) v

    pub moved_keeps_words : (k : ℕ) (w : Settled) → PieceSettled (piece_of s kind i j k) w ↔ PieceSettled (piece_of t kind i j k) w
    moved_keeps_words k w = alike_word (moved_alike k) w

    pub moved_keeps_pair_words : (w : Settled) → PairSettled s kind i j w ↔ PairSettled t kind i j w
    moved_keeps_pair_words w = alike_pair_word kind s t i j i j (piece_for_piece (λ k below. moved_alike k)) w

    pub culled_in_either_meets_in_neither : (culled s kind i j ≡ true) ⊎ (culled t kind i j ≡ true) → NeverMeets h kind i j known s × NeverMeets h kind i j known t
    culled_in_either_meets_in_neither (inl c) =
        let n = culled_never_meets s kind i j c in
        (n, (λ p. n.0 ((moved_keeps_pair_words Words.TheVariants.Hit).1 p), λ p. n.1 ((moved_keeps_pair_words Words.TheVariants.Touch).1 p)))
    culled_in_either_meets_in_neither (inr c) =
        let n = culled_never_meets t kind i j c in
        ((λ p. n.0 ((moved_keeps_pair_words Words.TheVariants.Hit).0 p), λ p. n.1 ((moved_keeps_pair_words Words.TheVariants.Touch).0 p)), n)

    pub culled_in_either_hit_in_neither : (culled s kind i j ≡ true) ⊎ (culled t kind i j ≡ true) → ¬ PairIs s kind i j Hit × ¬ PairIs t kind i j Hit
    culled_in_either_hit_in_neither (inl c) =
        (culled_never_hit s kind i j c, λ p. culled_never_hit s kind i j c ((moved_keeps_pairs Hit).1 p))
    culled_in_either_hit_in_neither (inr c) =
        (λ p. culled_never_hit t kind i j c ((moved_keeps_pairs Hit).0 p), culled_never_hit t kind i j c)

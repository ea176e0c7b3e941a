-- What follows for a pair from `piece_turned_lem`.
use Rattle.std.specs.Prelude.{◌≡◌, ◌↔◌}
use mathlib.Core.List.{[]}
use Prim.Native.Nat.{ℕ, ◌<◌}
use Rattle.meaning.specs.Scene.{Scene}
use Rattle.meaning.specs.Pieces.{piece_of, piece_count}
use Rattle.meaning.specs.Verdicts.{PieceIs, PairIs}
use Rattle.meaning.specs.Resting.{PieceSettled, PairSettled}
use Rattle.meaning.specs.Backwards.{first_turned, piece_turned}
use Rattle.meaning.specs.declared.Kind.{Kind}
use Rattle.meaning.specs.declared.Verdict.{Verdict}
use Rattle.meaning.specs.declared.Settled.{Settled}
use Rattle.theory.specs.Alike.{Alike, AlikePairs, alike_back, alike_piece, alike_word, alike_pair, alike_pair_word}
use Rattle.theory.specs.Moved.{Known}
use Rattle.theory.specs.Rewritten.{WellMade}
use Rattle.turning_laws.specs.TimeTurned.{piece_played_back}
use Rattle.turning_laws.specs.Turned.{TurnsRound}
use Rattle.turning_laws.specs.Pieces.{piece_there, piece_twice}
use Rattle.turning_laws.proofs.Pieces.{piece_turned_lem}

module _ {s t : Scene} (h : TurnsRound s t) (unsewn : s.seams ≡ []) where
  module _ (kind : Kind) (i j : ℕ) (known : Known s kind i j) (made : WellMade s kind i j) where
    pub turned_alike : (k : ℕ) → k < piece_count kind → Alike (piece_of s kind i j k) (piece_of t kind (first_turned s kind i) j (piece_turned kind k))
    turned_alike k b = rw (piece_turned_lem h unsewn kind i j known made k b) (piece_played_back s kind i j k)

    pub turned_alike_pairs : AlikePairs kind (piece_of s kind i j) (piece_of t kind (first_turned s kind i) j)
    turned_alike_pairs = record {
      there = λ k b. record { which = piece_turned kind k; there = piece_there kind k b; alike = turned_alike k b };
      back = λ k b. record {
        which = piece_turned kind k;
        there = piece_there kind k b;
        alike = rw (piece_twice kind k b) at (alike_back (turned_alike (piece_turned kind k) (piece_there kind k b)));
      };
    }

    pub turned_keeps_pieces : (k : ℕ) → k < piece_count kind → (v : Verdict)
        → PieceIs (piece_of s kind i j k) v ↔ PieceIs (piece_of t kind (first_turned s kind i) j (piece_turned kind k)) v
    turned_keeps_pieces k b v = alike_piece (turned_alike k b) v

    pub turned_keeps_words : (k : ℕ) → k < piece_count kind → (w : Settled)
        → PieceSettled (piece_of s kind i j k) w ↔ PieceSettled (piece_of t kind (first_turned s kind i) j (piece_turned kind k)) w
    turned_keeps_words k b w = alike_word (turned_alike k b) w

    pub turned_keeps_pairs : (v : Verdict) → PairIs s kind i j v ↔ PairIs t kind (first_turned s kind i) j v
    turned_keeps_pairs v = alike_pair kind s t i j (first_turned s kind i) j turned_alike_pairs v

    pub turned_keeps_pair_words : (w : Settled) → PairSettled s kind i j w ↔ PairSettled t kind (first_turned s kind i) j w
    turned_keeps_pair_words w = alike_pair_word kind s t i j (first_turned s kind i) j turned_alike_pairs w

-- Pieces that touch together and are degenerate together have the same verdicts, and so have pairs of such pieces. What keeps verdicts
-- (another order of points, another place in space) is shown through this.
use Rattle.std.specs.Prelude.{◌≡◌, ◌↔◌, ℕ, ◌<◌, pos}
use Rattle.std.proofs.Common.{subst}
use mathlib.Core.Logic.Iff
use Rattle.meaning.specs.Scene.{Scene}
use Rattle.meaning.specs.Pieces.{Piece, piece_of, piece_count}
use Rattle.meaning.specs.Equations.{determinant_of, Touches}
use Rattle.meaning.specs.Verdicts.{PieceIs, SomePiece, PairIs}
use Rattle.meaning.specs.Resting.{PieceSettled, SomeSettled, PairSettled}
use Rattle.meaning.specs.declared.Kind.{Kind}
use Rattle.meaning.specs.declared.Verdict.{Verdict}
use Rattle.meaning.specs.declared.Verdict.TheVariants.{Hit, Miss, Degenerate}
use Rattle.meaning.specs.declared.Settled as Words
use Rattle.meaning.specs.declared.Settled.{Settled}

pub record Alike (p q : Piece) : Type 0 where
  pub vanishes : (determinant_of p ≡ pos 0) ↔ (determinant_of q ≡ pos 0)
  pub touches : Touches p ↔ Touches q

pub alike_same : {p q : Piece} → p ≡ q → Alike p q
alike_same {p} e = subst (λ (q : Piece). Alike p q) e (record { vanishes = Iff.rfl; touches = Iff.rfl })

pub alike_back : {p q : Piece} → Alike p q → Alike q p
alike_back a = record { vanishes = Iff.symm a.vanishes; touches = Iff.symm a.touches }

pub alike_then : {p q r : Piece} → Alike p q → Alike q r → Alike p r
alike_then a b = record { vanishes = Iff.trans a.vanishes b.vanishes; touches = Iff.trans a.touches b.touches }

pub alike_piece : {p q : Piece} → Alike p q → (v : Verdict) → PieceIs p v ↔ PieceIs q v
unfolding PieceIs
alike_piece a Degenerate = a.vanishes
alike_piece a Hit = Iff.and (Iff.not a.vanishes) a.touches
alike_piece a Miss = Iff.and (Iff.not a.vanishes) (Iff.not a.touches)

-- and the same of the four words
pub alike_word : {p q : Piece} → Alike p q → (w : Settled) → PieceSettled p w ↔ PieceSettled q w
unfolding PieceSettled
alike_word a Words.TheVariants.Hit = alike_piece a Hit
alike_word a Words.TheVariants.Miss = alike_piece a Miss
alike_word a Words.TheVariants.Touch = Iff.and (alike_piece a Degenerate) a.touches
alike_word a Words.TheVariants.Apart = Iff.and (alike_piece a Degenerate) (Iff.not a.touches)

-- a piece of the pair is alike to the piece x
pub record SomeAlike (kind : Kind) (x : Piece) (q : ℕ → Piece) : Type 0 where
  pub which : ℕ
  pub there : which < piece_count kind
  pub alike : Alike x (q which)

-- two pairs of one kind: each piece of the one is alike to a piece of the other
pub record AlikePairs (kind : Kind) (p q : ℕ → Piece) : Type 0 where
  pub there : (k : ℕ) → k < piece_count kind → SomeAlike kind (p k) q
  pub back : (k : ℕ) → k < piece_count kind → SomeAlike kind (q k) p

-- the pieces that have the same number, say
pub piece_for_piece : {kind : Kind} {p q : ℕ → Piece} → ((k : ℕ) → k < piece_count kind → Alike (p k) (q k)) → AlikePairs kind p q
piece_for_piece a = record {
  there = λ k h. record { which = k; there = h; alike = a k h };
  back = λ k h. record { which = k; there = h; alike = alike_back (a k h) };
}

module _ (kind : Kind) (s t : Scene) (i j m n : ℕ) (a : AlikePairs kind (piece_of s kind i j) (piece_of t kind m n)) where
  pub some_alike : (v : Verdict) → SomePiece s kind i j v ↔ SomePiece t kind m n v
  some_alike v = (
    λ p. let b = a.there p.which p.there in record { which = b.which; there = b.there; has = (alike_piece b.alike v).0 p.has },
    λ p. let b = a.back p.which p.there in record { which = b.which; there = b.there; has = (alike_piece b.alike v).0 p.has },
  )

  pub alike_pair : (v : Verdict) → PairIs s kind i j v ↔ PairIs t kind m n v
  unfolding PairIs
  alike_pair Hit = some_alike Hit
  alike_pair Degenerate = Iff.and (Iff.not (some_alike Hit)) (some_alike Degenerate)
  alike_pair Miss = Iff.and (Iff.not (some_alike Hit)) (Iff.not (some_alike Degenerate))

  some_word_alike : (w : Settled) → SomeSettled s kind i j w ↔ SomeSettled t kind m n w
  some_word_alike w = (
    λ p. let b = a.there p.which p.there in record { which = b.which; there = b.there; has = (alike_word b.alike w).0 p.has },
    λ p. let b = a.back p.which p.there in record { which = b.which; there = b.there; has = (alike_word b.alike w).0 p.has },
  )

  pub alike_pair_word : (w : Settled) → PairSettled s kind i j w ↔ PairSettled t kind m n w
  unfolding PairSettled
  alike_pair_word Words.TheVariants.Hit = some_word_alike Words.TheVariants.Hit
  alike_pair_word Words.TheVariants.Touch = Iff.and (Iff.not (some_word_alike Words.TheVariants.Hit)) (some_word_alike Words.TheVariants.Touch)
  alike_pair_word Words.TheVariants.Apart =
      let hit = Iff.not (some_word_alike Words.TheVariants.Hit) in
      let touch = Iff.not (some_word_alike Words.TheVariants.Touch) in
      let flat = some_alike Degenerate in (
        λ h. (hit.0 h.0, touch.0 h.1, flat.0 h.2),
        λ h. (hit.1 h.0, touch.1 h.1, flat.1 h.2),
      )
  alike_pair_word Words.TheVariants.Miss = Iff.and (Iff.not (some_word_alike Words.TheVariants.Hit)) (Iff.not (some_alike Degenerate))

-- Hit and miss stay; a degenerate piece is what the search says.
use Rattle.meaning.specs.Pieces.{Piece}
use Rattle.meaning.specs.Verdicts.{PieceIs}
use Rattle.meaning.specs.Resting.{PieceSettled}
use Rattle.meaning.specs.declared.Verdict.{Verdict}
use Rattle.meaning.specs.declared.Verdict.TheVariants.{Hit, Miss, Degenerate}
use Rattle.std.proofs.Common.{◌≡◌, refl}
use Rattle.corner_search.specs.Settles.{kept, settles_touch, settles_apart}
use Rattle.corner_search.proofs.settle_piece.Goals as goal

stays : (p : Piece) (v : Verdict) → PieceIs p v → (v ≡ Degenerate → ⊥) → PieceSettled p (kept v)
unfolding PieceSettled
stays p Hit h k = h
stays p Miss h k = h
stays p Degenerate h k = absurd (k refl)

pub returns-in_default : goal.returns-in_default
returns-in_default c = rw c.keep.ensures (stays _ _ c.requires.1 c.in_default.not-Degenerate)

pub piece_touches-requires : goal.piece_touches-requires
piece_touches-requires c = c.requires.0

pub returns-then-piece_touches : goal.returns-then-piece_touches
returns-then-piece_touches c = settles_touch _ c.args.six c.requires.1 c.in-Degenerate.is _ c.piece_touches.ensures c.if-piece_touches.true

pub returns-else-piece_touches : goal.returns-else-piece_touches
returns-else-piece_touches c = settles_apart _ c.args.six c.requires.1 c.in-Degenerate.is _ c.piece_touches.ensures c.if-piece_touches.false

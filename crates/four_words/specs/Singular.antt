-- The pieces of a degenerate pair: no piece is hit, so one that has weights is degenerate, and touches.
use Rattle.std.specs.Prelude.{ℕ, ◌<◌, ◌≡◌, Bool, true, false}
use Rattle.std.proofs.Common.{sym}
use Rattle.std.proofs.Math.Path.{subst}
use Rattle.std.proofs.Math.Logic.{⊎_elim}
use Rattle.meaning.specs.Scene.{Scene}
use Rattle.meaning.specs.Pieces.{piece_of, piece_count}
use Rattle.meaning.specs.Equations.{determinant_of, Touches}
use Rattle.meaning.specs.Verdicts.{PieceIs, PairIs}
use Rattle.meaning.specs.Resting.{PieceSettled}
use Rattle.meaning.specs.declared.Kind.{Kind}
use Rattle.meaning.specs.declared.Verdict.{Verdict}
use Rattle.meaning.specs.declared.Settled.{Settled}
use Rattle.corner_leaf.specs.declared.SixPoints.{SixPoints}
use Rattle.corner_laws.specs.Flat.{zero_or}
use Rattle.corner_search.specs.Says.{Tells}
use Rattle.corner_search.specs.Settles.{every_left, every_left_is}
use Rattle.corner_search.specs.Sixes.{six_of, six_piece}

module _ (s : Scene) (kind : Kind) (i j : ℕ) where
  pub touch_settled : PairIs s kind i j Verdict.Degenerate → (k : ℕ) → k < piece_count kind → Touches (piece_of s kind i j k) → PieceSettled (piece_of s kind i j k) Settled.Touch
  unfolding PairIs PieceIs PieceSettled
  touch_settled h k l t = ⊎_elim (λ z. (z, t)) (λ n. absurd (h.0 (record { which = k; there = l; has = (n, t) }))) (zero_or (determinant_of (piece_of s kind i j k)))

  -- what is told of all the points of a piece
  module _ (k : ℕ) {six : SixPoints} (is : six ≡ six_of s kind i j k) (r : Bool) (told : Tells s.positions six every_left r) where
    here : Tells s.positions (six_of s kind i j k) every_left r
    here = subst (λ (x : SixPoints). Tells s.positions x every_left r) is told

    pub told_touch : r ≡ true → PairIs s kind i j Verdict.Degenerate → k < piece_count kind → PieceSettled (piece_of s kind i j k) Settled.Touch
    unfolding Tells
    told_touch e h l =
        touch_settled h k l
        (subst Touches (six_piece s kind i j k) ((every_left_is s.positions (six_of s kind i j k)).0 (subst (Tells s.positions (six_of s kind i j k) every_left) e here)))

    pub told_none : r ≡ false → ¬ PieceSettled (piece_of s kind i j k) Settled.Touch
    unfolding Tells PieceSettled
    told_none e t =
        subst (Tells s.positions (six_of s kind i j k) every_left) e here
        ((every_left_is s.positions (six_of s kind i j k)).1 (subst Touches (sym (six_piece s kind i j k)) t.1))

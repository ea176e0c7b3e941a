-- 'Prove the twelve cases as one table under a single statement': one test computes that no row has a fault, and one law says what a row
-- without a fault is.
use Rattle.std.specs.Prelude.{ℕ, List, [], ◌∷◌, refl, ℤ, pos, get_or, ◌<ℤ◌}
use Rattle.std.specs.Int.Signed.{lt_z_yes}
use Rattle.meaning.specs.Scene.{stood_for}
use Rattle.meaning.specs.Pieces.{Piece, moving_triangle, piece_of}
use Rattle.meaning.specs.Equations.{one, total, Balanced}
use Rattle.meaning.specs.declared.Kind.TheVariants.{PointTriangle}
use Rattle.demands.specs.Table.{numbered}

-- ---- the test

-- ---- 'Case 1, piece 1: weights 2, 2 against 2, 0, 1, 1'

abbrev pub weights : List ℕ → ℕ → ℤ
weights l i = pos (get_or l i 0)

pub record AreWeights (u v : List ℕ) (p : Piece) : Type 0 where
  pub balanced : Balanced p.first p.second (weights u) (weights v)
  pub some : pos 0 <ℤ total one (weights u) p.first

pub weights_shown : AreWeights (2 ∷ 2 ∷ []) (2 ∷ 0 ∷ 1 ∷ 1 ∷ []) (piece_of (numbered 1).scene PointTriangle 3 0 1)
unfolding total piece_of moving_triangle stood_for
weights_shown = record {
  balanced = record { sums = refl; xs = refl; ys = refl; zs = refl; times = refl };
  some = lt_z_yes tt;
}

-- Demand 2's words on a piece, in rational terms: where its six equations have one solution, it is hit exactly when nonnegative rational
-- weights solve them, else miss; else degenerate. It is what the verdict of every piece of a scene says.
use Rattle.std.specs.Prelude.{◌≡◌, refl, ℕ, zero, suc, ◌/◌, ◌%◌, min, max}
use Rattle.whole.specs.Vector.{Vector}
use Rattle.whole.specs.Cramer.{Four}
use Rattle.meaning.specs.Scene.{Scene, ends_of, corners_of}
use Rattle.meaning.specs.Pieces.{Event, Piece, moving_point, moving_edge, moving_triangle, piece_of}
use Rattle.meaning.specs.declared.Ends.{Ends}
use Rattle.meaning.specs.declared.Corners.{Corners}
use Rattle.meaning.specs.declared.Kind.{Kind}
use Rattle.meaning.specs.declared.Kind.TheVariants.{PointTriangle, EdgeEdge}
use Rattle.meaning.specs.declared.Verdict.{Verdict}
use Rattle.meaning.specs.declared.Verdict.TheVariants.{Hit, Miss, Degenerate}
use Rattle.theory.specs.Differences.{Form, alone, around, formed}
use Rattle.theory.specs.Rational.{RationalTouch}
use Rattle.theory.specs.OneSolution.{OneSolution}

abbrev pub Solvable : Piece → Type 0
Solvable p = OneSolution p.first p.second

abbrev pub Meets : Piece → Type 0
Meets p = RationalTouch p.first p.second

unfoldable pub RationalPieceIs : Piece → Verdict → Type 0
RationalPieceIs p Hit = Solvable p × Meets p
RationalPieceIs p Miss = Solvable p × ¬ Meets p
RationalPieceIs p Degenerate = ¬ Solvable p

-- ---- every piece of a scene has one of the three forms

pub record OfForm (p : Piece) : Type 0 where
  pub form : Form
  pub start : Vector
  pub end : Vector
  pub others : Four Event
  pub is : formed form start end others ≡ p

point_form : (s : Scene) (i : ℕ) (c : Corners) (k : ℕ) → OfForm (record { first = moving_point s.positions i; second = moving_triangle s.positions c k })
unfolding formed moving_triangle
point_form s i c zero = record { form = alone; start = _; end = _; others = _; is = refl }
point_form s i c (suc zero) = record { form = alone; start = _; end = _; others = _; is = refl }
point_form s i c (suc (suc k)) = record { form = alone; start = _; end = _; others = _; is = refl }

edge_form : (s : Scene) (e : Ends) (i : ℕ) (f : Ends) (j : ℕ) → OfForm (record { first = moving_edge s.positions e i; second = moving_edge s.positions f j })
unfolding formed moving_edge
edge_form s e zero f zero = record { form = around; start = _; end = _; others = _; is = refl }
edge_form s e zero f (suc j) = record { form = around; start = _; end = _; others = _; is = refl }
edge_form s e (suc i) f zero = record { form = around; start = _; end = _; others = _; is = refl }
edge_form s e (suc i) f (suc j) = record { form = around; start = _; end = _; others = _; is = refl }

pub piece_form : (s : Scene) (kind : Kind) (i j k : ℕ) → OfForm (piece_of s kind i j k)
unfolding piece_of
piece_form s PointTriangle i j k = point_form s i (corners_of s j) k
piece_form s EdgeEdge i j k = edge_form s (ends_of s (min i j)) (k / 2) (ends_of s (max i j)) (k % 2)

-- Clean at the start, nothing touched: clean at the end, for an edge and a triangle of a scene of any size. If neither end of the edge touches the
-- triangle in any piece of its pt pair, and the edge touches none of the three sides in any piece of their ee pairs (hit or touch, listed or culled),
-- then the edge pierces the triangle at the start exactly when it does at the end. That no vertex is shared need not be asked of pieces.
use Prim.Native.Nat.{ℕ}
use Rattle.meaning.specs.Scene.{Scene, edge_end}
use Rattle.meaning.specs.declared.Kind.TheVariants.{PointTriangle, EdgeEdge}
use Rattle.pierced_laws.specs.SomeWeights.{SomeTouches}

-- edge i touches nothing of triangle j, whose sides are the edges x, y and z: no end touches the triangle, and the edge touches no side
pub record NothingTouches (s : Scene) (i j x y z : ℕ) : Type 0 where
  pub first_end : ¬ SomeTouches s PointTriangle (edge_end s i 0) j
  pub second_end : ¬ SomeTouches s PointTriangle (edge_end s i 1) j
  pub first_side : ¬ SomeTouches s EdgeEdge i x
  pub second_side : ¬ SomeTouches s EdgeEdge i y
  pub third_side : ¬ SomeTouches s EdgeEdge i z

-- Each of the five hypotheses is needed: for each a scene in which it alone fails, the start is clean and the end is pierced. All else is as the
-- theorem asks for it: the scene is accepted, and the sides of its triangle are edges. And a touch counts as a hit does.
use Rattle.std.specs.Prelude.{Bool, true, false}
use Rattle.meaning.specs.Scene.{Scene, Accepted}
use Rattle.meaning.specs.Resting.{PairSettled}
use Rattle.meaning.specs.declared.Kind.TheVariants.{PointTriangle, EdgeEdge}
use Rattle.meaning.specs.declared.Settled.TheVariants.{Hit}
use Rattle.clean_demands.specs.Sides.{SidesOf}
use Rattle.clean_demands.specs.Motions.{Seven, first_end_touches, second_end_touches, first_side_touches, second_side_touches, third_side_touches}

-- accepted, the sides edges; a touch where it is said and nowhere else; clean at the start, pierced at the end
pub record FailsFor (s : Scene) (a b x y z : Bool) : Type 0 where
  pub accepted : Accepted s
  pub sides : SidesOf s 0 1 2 3
  pub seven : Seven s a b x y z false true

pub record EachNeeded : Type 0 where
  pub first_end : FailsFor first_end_touches true false false false false
  pub second_end : FailsFor second_end_touches false true false false false
  pub first_side : FailsFor first_side_touches false false true false false
  pub second_side : FailsFor second_side_touches false false false true false
  pub third_side : FailsFor third_side_touches false false false false true

-- ---- no hit is not enough

pub record NoHit (s : Scene) : Type 0 where
  pub first_end : ¬ PairSettled s PointTriangle 0 0 Hit
  pub second_end : ¬ PairSettled s PointTriangle 1 0 Hit
  pub first_side : ¬ PairSettled s EdgeEdge 0 1 Hit
  pub second_side : ¬ PairSettled s EdgeEdge 0 2 Hit
  pub third_side : ¬ PairSettled s EdgeEdge 0 3 Hit

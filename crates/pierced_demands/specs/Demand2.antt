-- Demand 2 for an edge and a triangle at one time: pierced exactly when nonnegative rational weights give both one place at that time; as such a
-- pair's word says it of a point that goes from one end of the edge to the other; and a pair whose boxes at that time do not meet is not.
use Rattle.std.specs.Prelude.{ℕ, Bool, false, ◌↔◌, ◌⊎◌, ◌≡◌}
use Rattle.meaning.specs.Scene.{Scene}
use Rattle.meaning.specs.Motion.{Together}
use Rattle.meaning.specs.Pierced.{Pierced, PiercedIs}
use Rattle.meaning.specs.Resting.{PairSettled}
use Rattle.meaning.specs.declared.Frame.{Frame}
use Rattle.meaning.specs.declared.Kind.TheVariants.{PointTriangle}
use Rattle.meaning.specs.declared.Settled.{Settled}
use Rattle.meaning.specs.declared.Settled.TheVariants.{Hit, Touch}
use Rattle.theory.specs.Rational.{RationalTouch}
use Rattle.pierced_laws.specs.OneTime.{end_places, corner_places, pierced_together}
use Rattle.pierced_laws.specs.Crossing.{crossing_of}
use Rattle.pierced_laws.proofs.Crossing.{pierced_word}
use Rattle.pierced_laws.specs.BoxesApart.{boxes_meet_at, boxes_apart_lem}
use Rattle.pierced_laws.specs.Kept.{ends_at, corners_at, pierced_rational}
use Rattle.pierced_pair.specs.OneResult.{one_word_lem}

pub record PiercedMeans (s : Scene) (f : Frame) (i j : ℕ) : Type 0 where
  pub one_word : (a b : Bool) → PiercedIs s f i j a → PiercedIs s f i j b → a ≡ b
  pub weights : Pierced s f i j ↔ RationalTouch (ends_at s f i) (corners_at s f j)
  pub places : Pierced s f i j ↔ Together (end_places s f i) (corner_places s f j)
  pub as_a_pair : (w : Settled) → PairSettled (crossing_of s f i j) PointTriangle 0 0 w → Pierced s f i j ↔ (w ≡ Hit) ⊎ (w ≡ Touch)
  pub boxes_apart : boxes_meet_at s f i j ≡ false → ¬ Pierced s f i j

pub demand2_pierced : (s : Scene) (f : Frame) (i j : ℕ) → PiercedMeans s f i j
demand2_pierced s f i j = record {
  one_word = one_word_lem s f i j;
  weights = pierced_rational s f i j;
  places = pierced_together s f i j;
  as_a_pair = pierced_word s f i j;
  boxes_apart = boxes_apart_lem s f i j;
}

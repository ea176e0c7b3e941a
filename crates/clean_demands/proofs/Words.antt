-- The five words say that nothing is touched, and the theorem has them for its hypotheses.
use Rattle.std.specs.Prelude.{ℕ, ◌↔◌}
use Rattle.meaning.specs.Scene.{Scene, edge_end}
use Rattle.meaning.specs.Pierced.{Pierced}
use Rattle.meaning.specs.declared.Frame.TheVariants.{Start, End}
use Rattle.meaning.specs.declared.Kind.TheVariants.{PointTriangle, EdgeEdge}
use Rattle.theory.specs.NoCrack.{Sewn}
use Rattle.clean_demands.specs.Sides.{SidesOf}
use Rattle.clean_demands.specs.OnePair.{NothingTouches}
use Rattle.clean_demands.proofs.OnePair.{stays_pierced}
use Rattle.clean_demands.specs.Words.{untroubled_touches_not, FiveUntroubled}

pub five_touch_nothing : (s : Scene) (i j x y z : ℕ) → FiveUntroubled s i j x y z ↔ NothingTouches s i j x y z
five_touch_nothing s i j x y z = (
  λ w. record {
    first_end = (untroubled_touches_not s PointTriangle (edge_end s i 0) j).0 w.first_end;
    second_end = (untroubled_touches_not s PointTriangle (edge_end s i 1) j).0 w.second_end;
    first_side = (untroubled_touches_not s EdgeEdge i x).0 w.first_side;
    second_side = (untroubled_touches_not s EdgeEdge i y).0 w.second_side;
    third_side = (untroubled_touches_not s EdgeEdge i z).0 w.third_side;
  },
  λ n. record {
    first_end = (untroubled_touches_not s PointTriangle (edge_end s i 0) j).1 n.first_end;
    second_end = (untroubled_touches_not s PointTriangle (edge_end s i 1) j).1 n.second_end;
    first_side = (untroubled_touches_not s EdgeEdge i x).1 n.first_side;
    second_side = (untroubled_touches_not s EdgeEdge i y).1 n.second_side;
    third_side = (untroubled_touches_not s EdgeEdge i z).1 n.third_side;
  },
)

-- the theorem, with words for its hypotheses
pub stays_pierced_by_words : {s : Scene} → Sewn s → (i j x y z : ℕ) → SidesOf s j x y z → FiveUntroubled s i j x y z
    → Pierced s Start i j ↔ Pierced s End i j
stays_pierced_by_words {s} sewn i j x y z sides words = stays_pierced sewn i j x y z sides ((five_touch_nothing s i j x y z).0 words)

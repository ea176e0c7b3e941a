-- An edge that is a side of a triangle is cut as the side is, so what touches none of three such edges is clear of the three sides.
use Prim.Native.Nat.{ℕ}
use Rattle.meaning.specs.Scene.{Scene, edge_end, corner, rising, ends_of, corners_of}
use Rattle.meaning.specs.declared.Kind.TheVariants.{EdgeEdge}
use Rattle.theory.specs.NoCrack.{Sewn, cut_alike}
use Rattle.pierced_laws.specs.SomeWeights.{SomeTouches}
use Rattle.clean_demands.specs.Sides.{Between, along, against, SidesOf, ClearOf, cut_so, clear_of_edge, clear_turned, EachSide, each_side}

module _ {s : Scene} (sewn : Sewn s) where
  pub clear_between : (i x a b : ℕ) → Between s x a b → ClearOf s i (ends_of s x) → ClearOf s i (rising s a b)
  clear_between i x a b (along h k) c = cut_so s i (cut_alike sewn (edge_end s x 0) (edge_end s x 1) a b h k) c
  clear_between i x a b (against h k) c = clear_turned sewn i b a (cut_so s i (cut_alike sewn (edge_end s x 0) (edge_end s x 1) b a h k) c)

-- edge i is clear of the three sides of triangle j, whatever the edges are that lie there
pub clear_of_sides : {s : Scene} → Sewn s → (i j x y z : ℕ) → SidesOf s j x y z
    → ¬ SomeTouches s EdgeEdge i x → ¬ SomeTouches s EdgeEdge i y → ¬ SomeTouches s EdgeEdge i z → EachSide (ClearOf s i) (corners_of s j)
clear_of_sides {s} sewn i j x y z sides first second third =
    each_side (ClearOf s i) s (corner s j 0) (corner s j 1) (corner s j 2)
    (clear_between sewn i x (corner s j 0) (corner s j 1) sides.first (clear_of_edge s i x first))
    (clear_between sewn i y (corner s j 1) (corner s j 2) sides.second (clear_of_edge s i y second))
    (clear_turned sewn i (corner s j 2) (corner s j 0) (clear_between sewn i z (corner s j 2) (corner s j 0) sides.third (clear_of_edge s i z third)))

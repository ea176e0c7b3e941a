-- In a scene of an edge, a triangle and its sides the sides are edges.
use Rattle.std.specs.Prelude.{refl, List, ℤ}
use Rattle.meaning.specs.Scene.{stood_for}
use Rattle.clean_demands.specs.Sides.{along, against, SidesOf}
use Rattle.clean_demands.specs.Motions.{motion}

pub motion_sides : (ps : List ℤ) → SidesOf (motion ps) 0 1 2 3
unfolding stood_for
motion_sides ps = record { first = along refl refl; second = along refl refl; third = against refl refl }

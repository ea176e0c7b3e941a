-- Sewn scenes that are accepted: a vertex sewn to a triangle's corner makes no pair with that triangle any more; a vertex that stands for another
-- keeps its own pt pairs; and edges or faces that became one are kept, each with its own pairs.
use Rattle.std.specs.Prelude.{ℕ, true, false, ◌↔◌, ◌≡◌, refl, pos}
use mathlib.Core.List.{[], ◌∷◌, ◌++◌, flat_map}
use Rattle.sequences.specs.Range.{times, over}
use Rattle.sequences.specs.Gather.{gather}
use Rattle.meaning.specs.Scene.{Scene, scene_of, Accepted, stood_for, replaced, some_below}
use Rattle.meaning.specs.Refusals.{not_there, shares}
use Rattle.meaning.specs.Boxes.{meet_on, listed}
use Rattle.meaning.specs.List.{pair, pairs}
use Rattle.meaning.specs.Text.{coordinates}
use Rattle.meaning.specs.declared.Kind.TheVariants.{PointTriangle, EdgeEdge}
use Rattle.demands.specs.Sending.{up_to, send, turning}
use Rattle.demands.specs.Standing.{Stands, stands_is}
use Rattle.demands.specs.Table.{at, neg, numbered}
use Rattle.seam_demands.specs.Cloth.{resting, o, p, q, four, face}

-- ---- two vertices in one place

abbrev pub together : Scene
together = scene_of four [] face (3 ∷ 1 ∷ [])

pub together_accepted : Accepted together
unfolding some_below stood_for
together_accepted = record { shapely = refl; in_range = refl; known = refl; sewn_well = refl; distinct = refl }

-- and so is it sent through a matrix, with its seams, as demand 3 sends it
pub sent_too : Accepted (send turning (at (pos 5) (pos 0) (neg 7)) (at (neg 1) (pos 9) (pos 0)) together)
unfolding send up_to flat_map some_below stood_for
sent_too = record { shapely = refl; in_range = refl; known = refl; sewn_well = refl; distinct = refl }

-- the pair that the list has for nothing, and the list without it
pub false_pair : pairs (scene_of four [] face []) ≡ pair PointTriangle 3 0 ∷ []
unfolding pairs gather over times shares meet_on stood_for
false_pair = refl

pub no_false_pair : pairs together ≡ []
unfolding pairs gather over times shares meet_on stood_for
no_false_pair = refl

-- ---- a replaced vertex keeps its own pt pairs

-- it stands in the list with every triangle that it shares no vertex with and whose box meets its own, as any vertex does
pub replaced_listed : (s : Scene) (v j : ℕ) → replaced s v ≡ true → not_there s PointTriangle v j ≡ false
    → Stands s PointTriangle v j ↔ (listed s PointTriangle v j ≡ true)
replaced_listed s v j sewn there = stands_is s PointTriangle v j there

-- the scene of case 1 with its point twice, the second sewn to the first: each has its pair
abbrev pub point_twice : Scene
point_twice =
    scene_of ((numbered 1).scene.positions ++ coordinates (at (pos 1) (pos 1) (pos 1)) (at (pos 1) (pos 1) (neg 1))) [] face (4 ∷ 3 ∷ [])

pub replaced_keeps_its_pairs : pairs point_twice ≡ pair PointTriangle 3 0 ∷ pair PointTriangle 4 0 ∷ []
unfolding pairs gather over times shares meet_on stood_for
replaced_keeps_its_pairs = refl

pub point_twice_accepted : Accepted point_twice
unfolding some_below stood_for
point_twice_accepted = record { shapely = refl; in_range = refl; known = refl; sewn_well = refl; distinct = refl }

-- ---- faces and edges that became one are kept

-- the scene of case 1 with T twice, sewn corner to corner: the point has a pair with each
abbrev pub face_twice : Scene
face_twice =
    scene_of ((numbered 1).scene.positions ++ resting o ++ resting p ++ resting q) [] (0 ∷ 1 ∷ 2 ∷ 4 ∷ 5 ∷ 6 ∷ []) (4 ∷ 0 ∷ 5 ∷ 1 ∷ 6 ∷ 2 ∷ [])

pub face_twice_accepted : Accepted face_twice
unfolding some_below stood_for
face_twice_accepted = record { shapely = refl; in_range = refl; known = refl; sewn_well = refl; distinct = refl }

pub each_face_has_its_pair : pairs face_twice ≡ pair PointTriangle 3 0 ∷ pair PointTriangle 3 1 ∷ []
unfolding pairs gather over times shares meet_on stood_for
each_face_has_its_pair = refl

-- the scene of case 9 with its first edge twice, sewn end to end: the other edge has a pair with each
abbrev pub edge_twice : Scene
edge_twice =
    scene_of ((numbered 9).scene.positions ++ resting (at (neg 2) (pos 0) (pos 0)) ++ resting (at (pos 2) (pos 0) (pos 0)))
    (0 ∷ 1 ∷ 2 ∷ 3 ∷ 4 ∷ 5 ∷ []) [] (4 ∷ 0 ∷ 5 ∷ 1 ∷ [])

pub edge_twice_accepted : Accepted edge_twice
unfolding some_below stood_for
edge_twice_accepted = record { shapely = refl; in_range = refl; known = refl; sewn_well = refl; distinct = refl }

pub each_edge_has_its_pair : pairs edge_twice ≡ pair EdgeEdge 0 1 ∷ pair EdgeEdge 1 2 ∷ []
unfolding pairs gather over times shares meet_on stood_for
each_edge_has_its_pair = refl

-- Sewn scenes that are refused: 15 in each way that it arises, 4 where two corners stand for one vertex, 1 and 3 for the list of seams.
use Rattle.std.specs.Prelude.{ℕ, true, false, List, [], ◌∷◌, ◌++◌, ◌≡◌, refl, Result}
use Rattle.meaning.specs.Scene.{Scene, scene_of, stood_for, wrong_shape, out_of_range, unknown_vertex, broken_seam, repeated_vertex, some_below}
use Rattle.meaning.specs.Refusals.{refused, SceneChecked, outcome_alone}
use Rattle.meaning.specs.Text.{coordinates}
use Rattle.theory.specs.Bounds.{Every}
use Rattle.demands.specs.Demand1.{demand1_scene}
use Rattle.seam_demands.specs.Cloth.{resting, o, p, q, five, face}
use Rattle.meaning.specs.declared.Refusal.{Refusal}

abbrev pub RefusedWith : ℕ → Scene → Type 0
RefusedWith n s = (r : Result (Unit {0}) Refusal) → SceneChecked s r → outcome_alone r ≡ refused n 0

-- ---- 15: seams out of order, a vertex sewn twice, one that stands for a higher vertex or for itself, a chain, and two vertices that are apart at
-- the start or at the end alone

abbrev pub out_of_order : Scene
out_of_order = scene_of five [] face (4 ∷ 1 ∷ 3 ∷ 1 ∷ [])

abbrev pub sewn_twice : Scene
sewn_twice = scene_of five [] face (3 ∷ 1 ∷ 3 ∷ 1 ∷ [])

abbrev pub sewn_upwards : Scene
sewn_upwards = scene_of five [] face (1 ∷ 3 ∷ [])

abbrev pub sewn_to_itself : Scene
sewn_to_itself = scene_of five [] face (3 ∷ 3 ∷ [])

abbrev pub sewn_in_a_chain : Scene
sewn_in_a_chain = scene_of five [] face (3 ∷ 1 ∷ 4 ∷ 3 ∷ [])

abbrev pub apart_at_the_start : Scene
apart_at_the_start = scene_of (resting o ++ resting p ++ resting q ++ coordinates q p) [] face (3 ∷ 1 ∷ [])

abbrev pub apart_at_the_end : Scene
apart_at_the_end = scene_of (resting o ++ resting p ++ resting q ++ coordinates p q) [] face (3 ∷ 1 ∷ [])

refused_15 : (s : Scene) → wrong_shape s ≡ false → out_of_range s ≡ false → unknown_vertex s ≡ false → broken_seam s ≡ true → RefusedWith 15 s
refused_15 s shape range known broken r h = (demand1_scene s r h).rows.no15.1 (shape, (range, (known, broken)))

pub broken_refused : Every (RefusedWith 15)
    (out_of_order ∷ sewn_twice ∷ sewn_upwards ∷ sewn_to_itself ∷ sewn_in_a_chain ∷ apart_at_the_start ∷ apart_at_the_end ∷ [])
unfolding some_below
broken_refused =
    (refused_15 out_of_order refl refl refl refl, (refused_15 sewn_twice refl refl refl refl, (refused_15 sewn_upwards refl refl refl refl, (refused_15 sewn_to_itself refl refl refl refl, (refused_15 sewn_in_a_chain refl refl refl refl, (refused_15 apart_at_the_start refl refl refl refl, (refused_15 apart_at_the_end refl refl refl refl, tt)))))))

-- ---- 4: an edge whose ends, or a triangle two of whose corners, stand for one vertex; there too where both are replaced

abbrev pub folded_edge : Scene
folded_edge = scene_of five (1 ∷ 3 ∷ []) [] (3 ∷ 1 ∷ [])

abbrev pub folded_face : Scene
folded_face = scene_of five [] (0 ∷ 1 ∷ 3 ∷ []) (3 ∷ 1 ∷ [])

abbrev pub edge_of_two_replaced : Scene
edge_of_two_replaced = scene_of five (3 ∷ 4 ∷ []) [] (3 ∷ 1 ∷ 4 ∷ 1 ∷ [])

abbrev pub face_of_two_replaced : Scene
face_of_two_replaced = scene_of five [] (4 ∷ 0 ∷ 3 ∷ []) (3 ∷ 1 ∷ 4 ∷ 1 ∷ [])

refused_4 : (s : Scene) → wrong_shape s ≡ false → out_of_range s ≡ false → unknown_vertex s ≡ false → broken_seam s ≡ false → repeated_vertex s ≡ true
    → RefusedWith 4 s
refused_4 s shape range known sewn folded r h = (demand1_scene s r h).rows.no4.1 (shape, (range, (known, (sewn, folded))))

pub folded_refused : Every (RefusedWith 4) (folded_edge ∷ folded_face ∷ edge_of_two_replaced ∷ face_of_two_replaced ∷ [])
unfolding some_below stood_for
folded_refused =
    (refused_4 folded_edge refl refl refl refl refl, (refused_4 folded_face refl refl refl refl refl, (refused_4 edge_of_two_replaced refl refl refl refl refl, (refused_4 face_of_two_replaced refl refl refl refl refl, tt))))

-- ---- 1: a seam list of odd length; 3: a vertex that isn't there, before 15

abbrev pub half_a_seam : Scene
half_a_seam = scene_of five [] face (3 ∷ 1 ∷ 4 ∷ [])

pub odd_refused : RefusedWith 1 half_a_seam
odd_refused r h = (demand1_scene half_a_seam r h).rows.no1.1 refl

abbrev pub sewn_to_no_vertex : Scene
sewn_to_no_vertex = scene_of five [] face (3 ∷ 9 ∷ [])

pub unknown_refused : RefusedWith 3 sewn_to_no_vertex
unfolding some_below
unknown_refused r h = (demand1_scene sewn_to_no_vertex r h).rows.no3.1 (refl, (refl, refl))

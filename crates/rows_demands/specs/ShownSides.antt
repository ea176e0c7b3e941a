-- Edges that are whole, and orders that are taken, shown of two triangles that share an edge, all in one place: sides 0 1 and 3 2 share no vertex, and their ee
-- pair stands in the list once; and of two orders of the edges, one the other backwards.
use Rattle.std.specs.Prelude.{ℕ, zero, suc, ◌<◌, false, List, [], ◌∷◌, ◌≡◌, refl, ℤ, pos, replicate, Ok}
use Rattle.std.proofs.Common.{arith}
use Rattle.meaning.specs.Scene.{Scene, scene_of, stood_for, some_below}
use Rattle.meaning.specs.Refusals.{given, Answers}
use Rattle.meaning.specs.MeshEdges.{whole, edges_say, bare_side, ends_fall, EdgesAre, EdgesChecked}
use Rattle.meaning.specs.MeshRows.{Lent}
use Rattle.mesh_checks.specs.Meshes.{AcceptedMesh}
use Rattle.rows_demands.specs.AnyLent.{Taken}
use Rattle.rows_demands.specs.Shown.{accepted_answers}
use Rattle.meaning.specs.declared.EdgesFound.TheVariants.{Whole}

-- triangles 0 1 2 and 2 1 3; two of the five edges are written from their higher end
abbrev pub two_triangles : Scene
two_triangles =
    scene_of (replicate {A = ℤ} 24 (pos 0)) (0 ∷ 1 ∷ 2 ∷ 0 ∷ 1 ∷ 2 ∷ 1 ∷ 3 ∷ 3 ∷ 2 ∷ []) (0 ∷ 1 ∷ 2 ∷ 2 ∷ 1 ∷ 3 ∷ []) []

abbrev pub their_sides : List ℕ
their_sides = 0 ∷ 2 ∷ 1 ∷ 2 ∷ 3 ∷ 4 ∷ []

abbrev pub by_place : List ℕ
by_place = 0 ∷ 1 ∷ 2 ∷ 3 ∷ 4 ∷ []

abbrev pub backwards : List ℕ
backwards = 4 ∷ 3 ∷ 2 ∷ 1 ∷ 0 ∷ []

pub triangles_accepted : AcceptedMesh two_triangles
unfolding some_below stood_for
triangles_accepted = record { shapely = refl; in_range = refl; known = refl; sewn_well = refl; distinct = refl }

no_side_bare : (i : ℕ) → i < 6 → bare_side two_triangles their_sides i ≡ false
no_side_bare zero h = refl
no_side_bare (suc zero) h = refl
no_side_bare (suc (suc zero)) h = refl
no_side_bare (suc (suc (suc zero))) h = refl
no_side_bare (suc (suc (suc (suc zero)))) h = refl
no_side_bare (suc (suc (suc (suc (suc zero))))) h = refl
no_side_bare (suc (suc (suc (suc (suc (suc i)))))) h = absurd (omega arith)

ends_rise : (i : ℕ) → i < 4 → ends_fall two_triangles by_place i ≡ false
ends_rise zero h = refl
ends_rise (suc zero) h = refl
ends_rise (suc (suc zero)) h = refl
ends_rise (suc (suc (suc zero))) h = refl
ends_rise (suc (suc (suc (suc i)))) h = absurd (omega arith)

pub triangles_whole : EdgesChecked two_triangles their_sides by_place 0 5 (Ok Whole)
unfolding Answers edges_say EdgesAre some_below
triangles_whole =
    accepted_answers (EdgesAre two_triangles their_sides by_place) (record { number = 18; holds = false; carries = 0 } ∷ []) (given whole) refl triangles_accepted
    (no_side_bare, ends_rise)

-- ---- orders

abbrev pub lent_with : List ℕ → Lent
lent_with order = record { edge_order = order; triangle_order = []; table = 0; places = 17; boxes = 258 }

pub order_taken : Taken two_triangles (lent_with by_place)
unfolding some_below
order_taken = record { enough = refl; ordered = refl }

pub backwards_taken : Taken two_triangles (lent_with backwards)
unfolding some_below
backwards_taken = record { enough = refl; ordered = refl }

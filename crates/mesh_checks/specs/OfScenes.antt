-- Meshes and scenes: within a scene's sizes the checks of a mesh are the scene's own, so every accepted scene is an accepted mesh, and a mesh
-- within a scene's sizes is answered as the scene is.
use Rattle.std.specs.Prelude.{ℕ, ◌≤◌, false, ◌||◌, List, ◌≡◌, ltb, Result}
use Rattle.std.proofs.Common.{sym, ◌∙◌, ap, subst, arith, ltb-false, le-ltb}
use Rattle.meaning.specs.Scene.{Scene, Accepted, vertex_count, edge_count, triangle_count, seam_count, uneven, over_size, wrong_shape}
use Rattle.meaning.specs.Limits.{vertex_limit, edge_limit, triangle_limit, seam_limit, part_limit}
use Rattle.meaning.specs.Refusals.{Check, Answers, SceneChecked, scene_checks, outcome_alone}
use Rattle.meaning.specs.Mesh.{over_mesh_size, mesh_shape, mesh_checks, MeshChecked}
use Rattle.answers.specs.Below.{or_left, or_rest}
use Rattle.mesh_checks.specs.Meshes.{AcceptedMesh}
use Rattle.meaning.specs.declared.Refusal.{Refusal}

-- what is not over a lower limit is not over a higher one
fewer : (a b n : ℕ) → a ≤ b → ltb a n ≡ false → ltb b n ≡ false
fewer a b n h e = le-ltb b n (omega (arith, ltb-false a n e))

module _ (s : Scene) (small : over_size s ≡ false) where
  pub within_mesh : over_mesh_size s ≡ false
  within_mesh =
      rw (
        fewer vertex_limit part_limit (vertex_count s) (omega arith) (search (or_left, or_rest)),
        fewer edge_limit part_limit (edge_count s) (omega arith) (search (or_left, or_rest)),
        fewer triangle_limit part_limit (triangle_count s) (omega arith) (search (or_left, or_rest)),
        fewer seam_limit part_limit (seam_count s) (omega arith) (search (or_left, or_rest)),
      )

  pub one_shape : mesh_shape s ≡ wrong_shape s
  one_shape = ap (λ b. uneven s || b) (within_mesh ∙ sym small)

  pub same_checks : mesh_checks s ≡ scene_checks s
  same_checks = rw one_shape

  -- within a scene's sizes the answer to the mesh is the answer to the scene
  pub answered_as_scene : (r : Result (Unit {0}) Refusal) → MeshChecked s r → SceneChecked s r
  answered_as_scene r a = subst (λ (ks : List Check). Answers ks (λ t. Unit {0}) (outcome_alone r)) same_checks a

  pub answered_as_mesh : (r : Result (Unit {0}) Refusal) → SceneChecked s r → MeshChecked s r
  answered_as_mesh r a = subst (λ (ks : List Check). Answers ks (λ t. Unit {0}) (outcome_alone r)) (sym same_checks) a

  -- and it is accepted exactly when the scene is
  pub mesh_is_scene : AcceptedMesh s → Accepted s
  mesh_is_scene a = record {
    shapely = sym one_shape ∙ a.shapely;
    in_range = a.in_range;
    known = a.known;
    sewn_well = a.sewn_well;
    distinct = a.distinct;
  }

  pub scene_as_mesh : Accepted s → AcceptedMesh s
  scene_as_mesh a = record {
    shapely = one_shape ∙ a.shapely;
    in_range = a.in_range;
    known = a.known;
    sewn_well = a.sewn_well;
    distinct = a.distinct;
  }

-- every accepted scene is an accepted mesh
pub scene_is_mesh : (s : Scene) → Accepted s → AcceptedMesh s
scene_is_mesh s a = scene_as_mesh s (or_rest (uneven s) (over_size s) a.shapely) a

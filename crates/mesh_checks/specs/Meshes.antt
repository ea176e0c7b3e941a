-- A mesh that none of its five checks refuses, and from the check to it and back.
use Rattle.std.specs.Prelude.{false, ◌≡◌, refl, Ok, Result}
use Rattle.meaning.specs.Scene.{Scene, out_of_range, unknown_vertex, broken_seam, repeated_vertex}
use Rattle.meaning.specs.Refusals.{Answers, outcome_alone}
use Rattle.meaning.specs.Mesh.{mesh_shape, mesh_checks, MeshChecked}
use Rattle.answers.specs.Answering.{is_given, one_answer}
use Rattle.meaning.specs.declared.Refusal.{Refusal}
use Rattle.answers.specs.Speaking.{one_alone}

-- a mesh that none of the five refuses
pub record AcceptedMesh (s : Scene) : Type 0 where
  pub shapely : mesh_shape s ≡ false
  pub in_range : out_of_range s ≡ false
  pub known : unknown_vertex s ≡ false
  pub sewn_well : broken_seam s ≡ false
  pub distinct : repeated_vertex s ≡ false

pub mesh_checked : (s : Scene) → AcceptedMesh s → MeshChecked s (Ok tt)
unfolding Answers outcome_alone
mesh_checked s a = rw (a.shapely, a.in_range, a.known, a.sewn_well, a.distinct) tt

pub mesh_accepted : (s : Scene) → MeshChecked s (Ok tt) → AcceptedMesh s
unfolding outcome_alone
mesh_accepted s a =
    let (h1, a1) = is_given (λ t. Unit {0}) _ _ tt a in
    let (h2, a2) = is_given (λ t. Unit {0}) _ _ tt a1 in
    let (h3, a3) = is_given (λ t. Unit {0}) _ _ tt a2 in
    let (h4, a4) = is_given (λ t. Unit {0}) _ _ tt a3 in
    let (h5, a5) = is_given (λ t. Unit {0}) _ _ tt a4 in
    record { shapely = h1; in_range = h2; known = h3; sewn_well = h4; distinct = h5 }

-- only one answer is right
pub one_mesh_answer : (s : Scene) (r r' : Result (Unit {0}) Refusal) → MeshChecked s r → MeshChecked s r' → r ≡ r'
one_mesh_answer s r r' p q =
    one_alone r r' (one_answer (λ t. Unit {0}) (λ a b h k. refl) (mesh_checks s) (outcome_alone r) (outcome_alone r') p q)

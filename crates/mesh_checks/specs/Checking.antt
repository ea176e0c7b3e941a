-- The check of a mesh makes the table of its seams in a lent list: what each way out of it gives. As for a scene (scene_checks), at the size of a mesh.
use Rattle.std.specs.Prelude.{ℕ, false, List, ◌≡◌, length, Result}
use Rattle.std.proofs.Common.{ap, arith}
use Rattle.meaning.specs.Scene.{Scene, scene_of, vertex_count, unknown_vertex}
use Rattle.meaning.specs.Mesh.{mesh_shape, MeshChecked}
use Rattle.answers.specs.Below.{or_left, or_rest}
use Rattle.scene_checks.specs.Facts.{none_over, known_inside}
use Rattle.scene_checks.specs.Ways.{stitched_by, Way}
use Rattle.scene_seams.specs.Table.{seams_of}
use Rattle.scene_seams.specs.Alone.{tabled}
use Rattle.mesh_seams.specs.Sewing.{MeshBlank, MeshSewable}
use Rattle.mesh_checks.specs.Meshes.{AcceptedMesh}
use Rattle.meaning.specs.declared.Refusal.{Refusal}

-- the seams are taken into the table once 1, 2 and 3 have passed
abbrev pub mesh_stitched : Scene → List ℕ → List ℕ
mesh_stitched s t = stitched_by (mesh_shape s) s t

-- of a table that was t and is t': it has the mesh's seams where the mesh is accepted
pub record MeshStitched (s : Scene) (t t' : List ℕ) : Type 0 where
  pub table : t' ≡ mesh_stitched s t
  pub tells : AcceptedMesh s → seams_of t' ≡ s.seams

-- the mesh that the table tells is then the mesh
pub one_mesh : {s : Scene} {t t' : List ℕ} → MeshStitched s t t' → AcceptedMesh s → tabled s.positions s.edges s.triangles t' ≡ s
one_mesh {s} h a = ap (scene_of s.positions s.edges s.triangles) (h.tells a)

-- the answer is right, and the table is made
pub record CheckedInto (s : Scene) (t t' : List ℕ) (r : Result (Unit {0}) Refusal) : Type 0 where
  pub checked : MeshChecked s r
  pub into : MeshStitched s t t'

module _ (s : Scene) (t : List ℕ) where
  pub sewable : MeshBlank (vertex_count s) s.seams t → mesh_shape s ≡ false → unknown_vertex s ≡ false → MeshSewable s.positions s.seams t
  sewable b h u = record {
    blank = b;
    even = omega (arith, none_over (length s.seams) 2 (search (or_left, or_rest)));
    inside = known_inside _ s.seams (search (or_left, or_rest));
  }

-- each way out of the five checks (scene_checks, Ways)
pub by_way : {s : Scene} {t t' : List ℕ} {r : Result (Unit {0}) Refusal} → Way (mesh_shape s) s t t' r → CheckedInto s t t' r
by_way w = record {
  checked = w.checked;
  into = record { table = w.table; tells = λ a. w.tells a.shapely a.in_range a.known a.sewn_well };
}

-- What holds in a mesh that none of the five checks refuses: its sizes, its coordinates, its vertex numbers.
use Rattle.std.specs.Prelude.{ℕ, ◌*◌, ◌≤◌, false, ◌≡◌, length}
use Rattle.std.proofs.Common.{arith, ltb-false}
use Rattle.meaning.specs.Scene.{Scene, vertex_count, edge_count, triangle_count, seam_count, reaches_beyond}
use Rattle.meaning.specs.Limits.{part_limit}
use Rattle.answers.specs.Below.{or_left, or_rest}
use Rattle.scene_checks.specs.Facts.{none_over, checked_sound}
pub use Rattle.scene_checks.specs.Facts.{SoundWithin, Sound}
use Rattle.mesh_checks.specs.Meshes.{AcceptedMesh}

-- six numbers to each vertex, two to each edge, three to each triangle, two to each seam, and no more of them than 2^30
pub record MeshSized (s : Scene) : Type 0 where
  pub positions_long : length s.positions ≡ 6 * vertex_count s
  pub edges_long : length s.edges ≡ 2 * edge_count s
  pub triangles_long : length s.triangles ≡ 3 * triangle_count s
  pub seams_long : length s.seams ≡ 2 * seam_count s
  pub few_vertices : vertex_count s ≤ part_limit
  pub few_edges : edge_count s ≤ part_limit
  pub few_triangles : triangle_count s ≤ part_limit
  pub few_seams : seam_count s ≤ part_limit

pub mesh_sized : {s : Scene} → AcceptedMesh s → MeshSized s
mesh_sized {s} a =
    record {
      positions_long = omega (arith, none_over (length s.positions) 6 (search (or_left, or_rest)));
      edges_long = omega (arith, none_over (length s.edges) 2 (search (or_left, or_rest)));
      triangles_long = omega (arith, none_over (length s.triangles) 3 (search (or_left, or_rest)));
      seams_long = omega (arith, none_over (length s.seams) 2 (search (or_left, or_rest)));
      few_vertices = ltb-false _ _ (search (or_left, or_rest));
      few_edges = ltb-false _ _ (search (or_left, or_rest));
      few_triangles = ltb-false _ _ (search (or_left, or_rest));
      few_seams = ltb-false _ _ (search (or_left, or_rest));
    }

-- what judging a pair asks of a scene holds in an accepted mesh
pub mesh_sound : {s : Scene} → AcceptedMesh s → Sound s
mesh_sound a = checked_sound (mesh_sized a).few_vertices a.in_range a.known

-- and in the range of contacts, where no coordinate of the mesh is beyond it
pub mesh_sound_within : {s : Scene} {B : ℕ} → AcceptedMesh s → reaches_beyond B s ≡ false → SoundWithin B s
mesh_sound_within a near = checked_sound (mesh_sized a).few_vertices near a.known

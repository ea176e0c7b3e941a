-- A mesh of any length: a scene of which the checks 3 and 4 say nothing ill. The sizes and the range of coordinates are left out, so that a whole garment
-- is one. Every pair that is there has its vertices there, and no vertex twice in an edge or triangle.
use Rattle.std.specs.Prelude.{ℕ, ◌+◌, ◌*◌, ◌<◌, false, ◌≡◌}
use Rattle.std.proofs.Common.{arith}
use Rattle.meaning.specs.Scene.{Scene, AcceptedWithin, vertex_count, edge_count, triangle_count, edge_end, corner, unknown_vertex, repeated_vertex}
use Rattle.meaning.specs.Refusals.{not_there}
use Rattle.meaning.specs.Motion.{first_part, second_part}
use Rattle.meaning.specs.declared.Kind.{Kind}
use Rattle.meaning.specs.declared.Kind.TheVariants.{PointTriangle, EdgeEdge}
use Rattle.theory.specs.Moved.{Known}
use Rattle.theory.specs.Rewritten.{WellMade}
use Rattle.answers.specs.Below.{or_left, or_rest}
use Rattle.scene_checks.specs.Facts.{known_inside, edge_inside, triangle_inside}
use Rattle.list_pairs.specs.InOrder.{are_there}
use Rattle.demands.specs.StillAccepted.{ends_differ, corners_differ}

pub record Mesh (s : Scene) : Type 0 where
  -- 3: every number of an edge, a triangle or a seam is a vertex's
  pub known : unknown_vertex s ≡ false
  -- 4: no vertex is twice in one edge or triangle, by the vertex stood for
  pub distinct : repeated_vertex s ≡ false

-- every scene that is accepted is one
pub accepted_mesh : {s : Scene} {B : ℕ} → AcceptedWithin B s → Mesh s
accepted_mesh a = record { known = a.known; distinct = a.distinct }

module _ {s : Scene} (mesh : Mesh s) where
  mesh_end : (j k : ℕ) → j < edge_count s → k < 2 → edge_end s j k < vertex_count s
  mesh_end j k h l =
      let known : unknown_vertex s ≡ false = mesh.known in
      known_inside (vertex_count s) s.edges (search (or_left, or_rest)) (2 * j + k) (edge_inside s j k h l)

  mesh_corner : (j k : ℕ) → j < triangle_count s → k < 3 → corner s j k < vertex_count s
  mesh_corner j k h l =
      let known : unknown_vertex s ≡ false = mesh.known in
      known_inside (vertex_count s) s.triangles (search (or_left, or_rest)) (3 * j + k) (triangle_inside s j k h l)

  pub mesh_known : (kind : Kind) (i j : ℕ) → not_there s kind i j ≡ false → Known s kind i j
  unfolding not_there first_part second_part
  mesh_known PointTriangle i j there =
      let (h, k) = are_there (vertex_count s) (triangle_count s) i j there in
      record {
        first = (h, tt);
        second = (mesh_corner j 0 k (omega arith), (mesh_corner j 1 k (omega arith), (mesh_corner j 2 k (omega arith), tt)));
      }
  mesh_known EdgeEdge i j there =
      let (h, k) = are_there (edge_count s) (edge_count s) i j there in
      record {
        first = (mesh_end i 0 h (omega arith), (mesh_end i 1 h (omega arith), tt));
        second = (mesh_end j 0 k (omega arith), (mesh_end j 1 k (omega arith), tt));
      }

  pub mesh_made : (kind : Kind) (i j : ℕ) → not_there s kind i j ≡ false → WellMade s kind i j
  unfolding not_there WellMade
  mesh_made PointTriangle i j there =
      let (h, k) = are_there (vertex_count s) (triangle_count s) i j there in
      (k, corners_differ s mesh.distinct j k)
  mesh_made EdgeEdge i j there =
      let (h, k) = are_there (edge_count s) (edge_count s) i j there in
      (h, ends_differ s mesh.distinct i h, k, ends_differ s mesh.distinct j k)

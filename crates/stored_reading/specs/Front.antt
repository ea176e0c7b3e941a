-- A scene that stands in front of larger buffers.
use Rattle.std.specs.Prelude.{ℕ, ◌*◌, ◌≤◌, List, ℤ, length, take}
use Rattle.meaning.specs.Limits.{vertex_limit, edge_limit, triangle_limit}
use Rattle.meaning.specs.Scene.{Scene, scene_of}
use Rattle.meaning.specs.declared.SceneCounts.{SceneCounts}

-- as much of three buffers as the counts say, with any seams
abbrev pub front_with : SceneCounts → List ℤ → List ℕ → List ℕ → List ℕ → Scene
front_with c p e t w = scene_of (take (6 * c.vertices) p) (take (2 * c.edges) e) (take (3 * c.triangles) t) w

-- the counts are those of a scene, and the buffers have as much
pub record InFront (c : SceneCounts) (p : List ℤ) (e t : List ℕ) : Type 0 where
  pub few_vertices : c.vertices ≤ vertex_limit
  pub few_edges : c.edges ≤ edge_limit
  pub few_triangles : c.triangles ≤ triangle_limit
  pub positions : 6 * c.vertices ≤ length p
  pub edges : 2 * c.edges ≤ length e
  pub triangles : 3 * c.triangles ≤ length t

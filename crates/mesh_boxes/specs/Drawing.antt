-- When the boxes of all parts of a mesh can be worked out in a list: every end and every corner is a vertex, and there is room for a box of each part.
-- An accepted mesh is one of these, whatever its size.
use Rattle.std.specs.Prelude.{◌+◌, ◌*◌, ◌≤◌, false, ◌||◌, List, ◌≡◌, ℤ, length}
use Rattle.meaning.specs.Scene.{Scene, vertex_count, edge_count, triangle_count, unknown_in}
use Rattle.answers.specs.Below.{or_left, or_rest}
use Rattle.mesh_checks.specs.Meshes.{AcceptedMesh}

pub record Drawable (s : Scene) (l : List ℤ) : Type 0 where
  pub ends : unknown_in (vertex_count s) s.edges ≡ false
  pub corners : unknown_in (vertex_count s) s.triangles ≡ false
  pub room : 6 * (vertex_count s + edge_count s + triangle_count s) ≤ length l

pub mesh_drawable : {s : Scene} (l : List ℤ) → AcceptedMesh s → 6 * (vertex_count s + edge_count s + triangle_count s) ≤ length l → Drawable s l
mesh_drawable {s} l a h =
    let e = unknown_in (vertex_count s) s.edges in
    let t = unknown_in (vertex_count s) s.triangles in
    let w = unknown_in (vertex_count s) s.seams in
    record {
      ends = or_left e t (or_left (e || t) w a.known);
      corners = or_rest e t (or_left (e || t) w a.known);
      room = h;
    }

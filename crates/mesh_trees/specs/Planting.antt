-- What is made in the scratch of a mesh: its boxes are filled in, the tree over its edges is grown behind them, and the tree over its triangles behind
-- that. Every number of the scratch is known then.
use Rattle.std.specs.Prelude.{ℕ, ◌+◌, ◌*◌, ◌≤◌, false, List, ◌≡◌, refl, ℤ, length}
use Rattle.std.proofs.Common.{subst, sym, ◌∙◌, arith}
use Rattle.meaning.specs.Scene.{Scene, vertex_count, edge_count, triangle_count}
use Rattle.meaning.specs.StoredBoxes.{vertex_box}
use Rattle.meaning.specs.Limits.{part_limit}
use Rattle.meaning.specs.MeshRows.{tree_room, box_room}
use Rattle.mesh_tree.specs.Grown.{Grown}
use Rattle.mesh_tree.specs.Once.{one_height, one_growing, one_telling}
use Rattle.mesh_checks.specs.Meshes.{AcceptedMesh}
use Rattle.mesh_check_laws.specs.Facts.{mesh_sized}
use Rattle.mesh_boxes.specs.Drawing.{Drawable, mesh_drawable}
use Rattle.mesh_boxes.specs.Joining.{FilledBy}
use Rattle.mesh_boxes.specs.Once.{one_filling_by}
use Rattle.mesh_trees.specs.Scratch.{edge_nodes, triangle_nodes}

-- a mesh whose boxes can be worked out, no larger than a mesh may be, and scratch with room for its trees
pub record Plantable (s : Scene) (l : List ℤ) : Type 0 where
  pub drawable : Drawable s l
  pub few_vertices : vertex_count s ≤ part_limit
  pub few_edges : edge_count s ≤ part_limit
  pub few_triangles : triangle_count s ≤ part_limit
  pub room : box_room s ≤ length l

pub mesh_plantable : {s : Scene} (l : List ℤ) → AcceptedMesh s → box_room s ≤ length l → Plantable s l
mesh_plantable {s} l a h =
    let sized = mesh_sized a in
    record {
      drawable = mesh_drawable l a (omega arith);
      few_vertices = sized.few_vertices;
      few_edges = sized.few_edges;
      few_triangles = sized.few_triangles;
      room = h;
    }

-- by two orders the scratch was b and is b', the lists of levels of the two trees were e and t and are e' and t'
pub record Planted (s : Scene) (edge_order triangle_order : List ℕ) (b b' : List ℤ) (e e' t t' : List ℕ) (edge_top triangle_top : ℕ) : Type 0 where
  pub boxes : List ℤ
  pub nodes : List ℤ
  pub filled : FilledBy s (vertex_box s) edge_order triangle_order b boxes
  pub over_edges : Grown boxes nodes e e' (vertex_count s) (edge_count s) (edge_nodes s) edge_top
  pub over_triangles : Grown nodes b' t t' (vertex_count s + edge_count s) (triangle_count s) (triangle_nodes s) triangle_top

-- ---- as it is made, by counts that were taken

module _ {s : Scene} {v e t room : ℕ} (vs : v ≡ vertex_count s) (es : e ≡ edge_count s) (ts : t ≡ triangle_count s) (behind : room ≡ tree_room e) where
  pub last_fits : {l : List ℤ} {n : ℕ} → Plantable s l → n ≡ length l
      → (v + e + t ≤ v + e + t + room) × (t ≤ 1152921504606846976) × (6 * (v + e + t + room + tree_room t) ≤ n)
  last_fits can same =
      let few = can.few_triangles in
      let all = can.room in
      (omega arith, omega arith, rw (behind, vs, es, ts) (omega arith))

  pub planting_done : {p q : List ℕ} {b b₁ b₂ b₃ : List ℤ} {k k' m m' : List ℕ} {edge_top triangle_top : ℕ} → FilledBy s (vertex_box s) p q b b₁
      → Grown b₁ b₂ k k' v e (v + e + t) edge_top → Grown b₂ b₃ m m' (v + e) t (v + e + t + room) triangle_top
      → Planted s p q b b₃ k k' m m' edge_top triangle_top
  planting_done {b₁ = b₁} {b₂ = b₂} filled first second =
      record {
        boxes = b₁;
        nodes = b₂;
        filled = filled;
        over_edges = rw (vs, es, ts) at first;
        over_triangles = rw (behind, vs, es, ts) at second;
      }

-- ---- nothing is left open

module _ {s : Scene} {m n : List ℕ} {b b₁ b₂ : List ℤ} {e e₁ e₂ t t₁ t₂ : List ℕ} {edge_top triangle_top edge_high triangle_high : ℕ}
    (p : Planted s m n b b₁ e e₁ t t₁ edge_top triangle_top) (q : Planted s m n b b₂ e e₂ t t₂ edge_high triangle_high) where
  pub one_edge_top : edge_top ≡ edge_high
  one_edge_top = one_height p.over_edges.height q.over_edges.height

  pub one_triangle_top : triangle_top ≡ triangle_high
  one_triangle_top = one_height p.over_triangles.height q.over_triangles.height

  edges_grown : Grown p.boxes q.nodes e e₂ (vertex_count s) (edge_count s) (edge_nodes s) edge_top
  edges_grown = rw (one_edge_top, one_filling_by s p.filled q.filled) q.over_edges

  same_nodes : p.nodes ≡ q.nodes
  same_nodes = one_growing p.over_edges.nodes edges_grown.nodes

  triangles_grown : Grown p.nodes b₂ t t₂ (vertex_count s + edge_count s) (triangle_count s) (triangle_nodes s) triangle_top
  triangles_grown = rw (one_triangle_top, same_nodes) q.over_triangles

  pub one_planting : b₁ ≡ b₂
  one_planting = one_growing p.over_triangles.nodes triangles_grown.nodes

  pub one_edge_telling : e₁ ≡ e₂
  one_edge_telling = one_telling p.over_edges.levels edges_grown.levels

  pub one_triangle_telling : t₁ ≡ t₂
  one_triangle_telling = one_telling p.over_triangles.levels triangles_grown.levels

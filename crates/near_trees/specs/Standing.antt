-- Behind the trees of swept boxes stand the nodes of the start, and behind these those of the end: what the walk of near rows goes by.
use Rattle.std.specs.Prelude.{ℕ, zero, suc, ◌+◌, ◌*◌, ◌≤◌, ◌<◌, List, ◌≡◌, refl, ℤ, length, get_or}
use Rattle.std.proofs.Common.{sym, ap, ◌∙◌, subst, not-suc-le-zero, arith}
use Rattle.meaning.specs.Scene.{Scene, vertex_count, edge_count, triangle_count}
use Rattle.meaning.specs.StoredBoxes.{BoxesStand}
use Rattle.meaning.specs.MeshRows.{tree_room}
use Rattle.meaning.specs.declared.Frame.TheVariants.{Start, End}
use Rattle.meaning.specs.declared.Kind.TheVariants.{PointTriangle, EdgeEdge}
use Rattle.list_candidates.specs.Rows.{second_count}
use Rattle.mesh_tree.specs.Levels.{nodes_at, node_box}
use Rattle.mesh_tree.specs.Grown.{nodes_up_to, level_place, Height, Grown}
use Rattle.mesh_trees.specs.Scratch.{edge_nodes, triangle_nodes}
use Rattle.mesh_trees.specs.Planting.{Plantable, Planted}
use Rattle.mesh_trees.specs.Forest.{Forest}
use Rattle.near_boxes.specs.Far.{second_box_at}
use Rattle.near_walk.specs.Nodes.{Nodes}
use Rattle.near_trees.specs.Frames.{node_room, frames_room, FrameNodes, FramePlanted, SameFrom, same_then, same_later, node_low, frame_stays, grown_from}

-- both times
pub record Frames (s : Scene) (l : List ℤ) : Type 0 where
  pub at_start : FrameNodes Start s l (edge_nodes s + node_room s)
  pub at_end : FrameNodes End s l (edge_nodes s + node_room s + node_room s)
  pub room : frames_room s ≤ length l

pub frames_done : (s : Scene) {b b₁ b₂ : List ℤ} {start shift : ℕ} → start ≡ edge_nodes s + node_room s → shift ≡ node_room s → frames_room s ≤ length b
    → FramePlanted End s b b₁ (start + shift) → FramePlanted Start s b₁ b₂ start → Frames s b₂
frames_done s {b} {b₁} {b₂} {start} {shift} a r room last first =
    let late : FrameNodes End s b₁ (edge_nodes s + node_room s + node_room s) = rw (a, r) at last.nodes in
    let kept : SameFrom b₁ b₂ (edge_nodes s + node_room s + node_room s) = rw a at first.kept in
    record {
      at_start = rw a at first.nodes;
      at_end = frame_stays (omega arith) kept late;
      room = omega (arith, room, first.kept.long, last.kept.long);
    }

-- a list as long can be planted in as well
pub plantable_still : {s : Scene} {l l' : List ℤ} → length l' ≡ length l → Plantable s l → Plantable s l'
plantable_still same can =
    record {
      drawable = record { ends = can.drawable.ends; corners = can.drawable.corners; room = omega (arith, can.drawable.room) };
      few_vertices = can.few_vertices;
      few_edges = can.few_edges;
      few_triangles = can.few_triangles;
      room = omega (arith, can.room);
    }

-- the trees of swept boxes are planted in front of them
pub planted_from : {s : Scene} {m n : List ℕ} {b b' : List ℤ} {e e' t t' : List ℕ} {edge_top triangle_top : ℕ}
    → Planted s m n b b' e e' t t' edge_top triangle_top
    → SameFrom b b' (edge_nodes s + node_room s)
planted_from {s} {b = b} p =
    let fill : SameFrom b p.boxes (edge_nodes s + node_room s) =
    record { at = λ i h. p.filled.kept.at i (omega arith); long = p.filled.kept.same } in
    let one = same_later {later = edge_nodes s + node_room s} (omega arith) (grown_from p.over_edges) in
    let two = same_later {later = edge_nodes s + node_room s} (omega arith) (grown_from p.over_triangles) in
    same_then fill (same_then one two)

pub frames_stay : {s : Scene} {b b' : List ℤ} → SameFrom b b' (edge_nodes s + node_room s) → Frames s b → Frames s b'
frames_stay so p =
    record {
      at_start = frame_stays (omega arith) so p.at_start;
      at_end = frame_stays (omega arith) so p.at_end;
      room = omega (arith, p.room, so.long);
    }

-- ---- the nodes of the edges, and those of the triangles

moved : {l : List ℤ} {a b count : ℕ} {want : ℕ → _} → a ≡ b → BoxesStand l b count want → BoxesStand l a count want
moved e so = rw e so

module _ {s : Scene} {m n : List ℕ} {b l : List ℤ} {e e' t t' : List ℕ} {edge_top triangle_top : ℕ}
    (p : Planted s m n b l e e' t t' edge_top triangle_top) (forest : Forest s m n l e' t' edge_top triangle_top) (frames : Frames s l) where
  edge_level : (v : ℕ) → v < edge_top → get_or e' (2 * suc v) 0 ≡ edge_nodes s + nodes_up_to (edge_count s) v
  unfolding level_place
  edge_level v h = p.over_edges.levels.places (suc v) (omega arith)

  triangle_level : (v : ℕ) → v < triangle_top → get_or t' (2 * suc v) 0 ≡ triangle_nodes s + nodes_up_to (triangle_count s) v
  unfolding level_place
  triangle_level v h = p.over_triangles.levels.places (suc v) (omega arith)

  edge_start : (u : ℕ) → 0 < u → u ≤ edge_top
      → BoxesStand l (get_or e' (2 * u) 0 + node_room s) (nodes_at (edge_count s) u) (node_box (second_box_at Start s EdgeEdge) (edge_count s) u)
  edge_start zero h k = absurd (not-suc-le-zero h)
  edge_start (suc v) h k = moved (omega (arith, edge_level v (omega arith))) (frames.at_start.edges edge_top v p.over_edges.height (omega arith))

  edge_stop : (u : ℕ) → 0 < u → u ≤ edge_top
      → BoxesStand l (get_or e' (2 * u) 0 + node_room s + node_room s) (nodes_at (edge_count s) u) (node_box (second_box_at End s EdgeEdge) (edge_count s) u)
  edge_stop zero h k = absurd (not-suc-le-zero h)
  edge_stop (suc v) h k = moved (omega (arith, edge_level v (omega arith))) (frames.at_end.edges edge_top v p.over_edges.height (omega arith))

  edge_inside : (u : ℕ) → 0 < u → u ≤ edge_top → 6 * (get_or e' (2 * u) 0 + node_room s + node_room s + nodes_at (edge_count s) u) ≤ length l
  edge_inside zero h k = absurd (not-suc-le-zero h)
  edge_inside (suc v) h k =
      omega (arith, edge_level v (omega arith), node_low v p.over_edges.height (omega arith), frames.room)

  pub edge_nodes_lem : Nodes s EdgeEdge l e' (node_room s) (edge_count s) edge_top
  unfolding second_count
  edge_nodes_lem =
      record {
        tree = forest.over_edges;
        starts = edge_start;
        stops = edge_stop;
        inside = edge_inside;
        all = refl;
        ends = forest.ends;
        corners = forest.corners;
      }

  triangle_start : (u : ℕ) → 0 < u → u ≤ triangle_top
      → BoxesStand l (get_or t' (2 * u) 0 + node_room s) (nodes_at (triangle_count s) u)
      (node_box (second_box_at Start s PointTriangle) (triangle_count s) u)
  triangle_start zero h k = absurd (not-suc-le-zero h)
  triangle_start (suc v) h k =
      moved (omega (arith, triangle_level v (omega arith)))
      (frames.at_start.triangles triangle_top v p.over_triangles.height (omega arith))

  triangle_stop : (u : ℕ) → 0 < u → u ≤ triangle_top
      → BoxesStand l (get_or t' (2 * u) 0 + node_room s + node_room s) (nodes_at (triangle_count s) u)
      (node_box (second_box_at End s PointTriangle) (triangle_count s) u)
  triangle_stop zero h k = absurd (not-suc-le-zero h)
  triangle_stop (suc v) h k =
      moved (omega (arith, triangle_level v (omega arith)))
      (frames.at_end.triangles triangle_top v p.over_triangles.height (omega arith))

  triangle_inside : (u : ℕ) → 0 < u → u ≤ triangle_top
      → 6 * (get_or t' (2 * u) 0 + node_room s + node_room s + nodes_at (triangle_count s) u) ≤ length l
  triangle_inside zero h k = absurd (not-suc-le-zero h)
  triangle_inside (suc v) h k =
      omega (arith, triangle_level v (omega arith), node_low v p.over_triangles.height (omega arith), frames.room)

  pub triangle_nodes_lem : Nodes s PointTriangle l t' (node_room s) (triangle_count s) triangle_top
  unfolding second_count
  triangle_nodes_lem =
      record {
        tree = forest.over_triangles;
        starts = triangle_start;
        stops = triangle_stop;
        inside = triangle_inside;
        all = refl;
        ends = forest.ends;
        corners = forest.corners;
      }

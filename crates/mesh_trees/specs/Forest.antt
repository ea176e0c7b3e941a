-- What a row of the list goes by: the boxes of all parts, edges and triangles by the orders lent for them, and the two trees stand in the scratch, the
-- lists of levels tell where, and every vertex number is known.
use Rattle.std.specs.Prelude.{ℕ, ◌+◌, ◌*◌, ◌≤◌, ◌<◌, List, ◌≡◌, ℤ, pos, length, get_or}
use Rattle.std.proofs.Math.Path.{sym}
use Rattle.std.proofs.Common.{ap, ◌∙◌, arith}
use Rattle.meaning.specs.Scene.{Scene, vertex_count, edge_count, triangle_count, edge_end, corner}
use Rattle.meaning.specs.StoredBoxes.{box_at, vertex_box}
use Rattle.meaning.specs.Limits.{part_limit}
use Rattle.meaning.specs.MeshRows.{tree_room, box_room}
use Rattle.scene_checks.specs.Facts.{known_inside}
use Rattle.list_boxes.specs.Storing.{same_box}
use Rattle.mesh_tree.specs.Levels.{nodes_at, node_same}
use Rattle.mesh_tree.specs.Grown.{level_place, room_enough, levels_before, Grown}
use Rattle.mesh_walk.specs.Steps.{leaf_box, Tree, grown_tree}
use Rattle.mesh_boxes.specs.Led.{OrderLent}
use Rattle.mesh_boxes.specs.Joining.{BoxedBy}
use Rattle.mesh_trees.specs.Scratch.{edge_nodes, triangle_nodes}
use Rattle.mesh_trees.specs.Planting.{Plantable, Planted}

pub record Forest (s : Scene) (edge_order triangle_order : List ℕ) (l : List ℤ) (e t : List ℕ) (edge_top triangle_top : ℕ) : Type 0 where
  pub edges_lent : OrderLent (edge_count s) edge_order
  pub triangles_lent : OrderLent (triangle_count s) triangle_order
  pub boxed : BoxedBy s (vertex_box s) edge_order triangle_order l
  pub over_edges : Tree l e (edge_count s) edge_top
  pub edges_from : get_or e 0 0 ≡ vertex_count s
  pub over_triangles : Tree l t (triangle_count s) triangle_top
  pub triangles_from : get_or t 0 0 ≡ vertex_count s + edge_count s
  pub few_vertices : vertex_count s ≤ part_limit
  pub few_edges : edge_count s ≤ part_limit
  pub few_triangles : triangle_count s ≤ part_limit
  pub ends : (m k : ℕ) → m < edge_count s → k < 2 → edge_end s m k < vertex_count s
  pub corners : (m k : ℕ) → m < triangle_count s → k < 3 → corner s m k < vertex_count s

-- lists that have the same boxes up to a bound
pub record SameUpTo (l l' : List ℤ) (bound : ℕ) : Type 0 where
  pub at : (i : ℕ) → i < 6 * bound → get_or l' i (pos 0) ≡ get_or l i (pos 0)
  pub long : length l' ≡ length l

module _ {l l' : List ℤ} {bound : ℕ} (so : SameUpTo l l' bound) where
  box_stays : (k : ℕ) → k < bound → box_at l' k ≡ box_at l k
  box_stays k h = same_box l l' k (λ i p q. so.at i (omega arith))

  boxed_stays : {s : Scene} {p q : List ℕ} → BoxedBy s (vertex_box s) p q l → vertex_count s + edge_count s + triangle_count s ≤ bound
      → BoxedBy s (vertex_box s) p q l'
  boxed_stays {s} boxed h =
      record {
        vertices = record { at = λ i p. box_stays (0 + i) (omega arith) ∙ boxed.vertices.at i p };
        edges = record { at = λ i p. box_stays (vertex_count s + i) (omega arith) ∙ boxed.edges.at i p };
        triangles = record { at = λ i p. box_stays (vertex_count s + edge_count s + i) (omega arith) ∙ boxed.triangles.at i p };
        room = omega (arith, boxed.room, so.long);
      }

  tree_stays : {t : List ℕ} {n top : ℕ} → Tree l t n top → ((u : ℕ) → u ≤ top → get_or t (2 * u) 0 + nodes_at n u ≤ bound) → Tree l' t n top
  unfolding nodes_at
  tree_stays {t} {n} {top} tree below =
      record {
        nodes = λ u h.
            record {
              at = λ i p.
                  box_stays (get_or t (2 * u) 0 + i) (omega (arith, below u h))
                  ∙ (tree.nodes u h).at i p
                  ∙ node_same (leaf_box l t) (leaf_box l' t) n u i (λ j q. sym (box_stays (get_or t 0 0 + j) (omega (arith, below 0 (omega arith))))) p;
            };
        counts = tree.counts;
        inside = λ u h. omega (arith, tree.inside u h, so.long);
        low = tree.low;
        room = tree.room;
        few = tree.few;
      }

grown_same : {l l' : List ℤ} {t t' : List ℕ} {first n to top : ℕ} → Grown l l' t t' first n to top → SameUpTo l l' to
grown_same g = record { at = λ i h. g.nodes.front i h; long = g.nodes.same }

same_less : {l l' : List ℤ} {bound less : ℕ} → less ≤ bound → SameUpTo l l' bound → SameUpTo l l' less
same_less h so = record { at = λ i p. so.at i (omega arith); long = so.long }

-- a tree's nodes stand before the room behind it
levels_inside : {l l' : List ℤ} {t t' : List ℕ} {first n to top : ℕ} → Grown l l' t t' first n to top → first + n ≤ to
    → (u : ℕ) → u ≤ top → get_or t' (2 * u) 0 + nodes_at n u ≤ to + tree_room n
unfolding level_place
levels_inside {first} {n} {to} {top} g apart u h =
    omega (arith, g.levels.places u h, levels_before first n to top apart u h, room_enough n top g.height.most)

first_level : {l l' : List ℤ} {t t' : List ℕ} {first n to top : ℕ} → Grown l l' t t' first n to top → get_or t' 0 0 ≡ first
unfolding level_place
first_level g = g.levels.places 0 (omega arith)

-- what was planted is such a forest
pub planted_forest : {s : Scene} {m n : List ℕ} {b b' : List ℤ} {e e' t t' : List ℕ} {edge_top triangle_top : ℕ} → Plantable s b
    → 34 ≤ length e → 34 ≤ length t
    → OrderLent (edge_count s) m → OrderLent (triangle_count s) n → Planted s m n b b' e e' t t' edge_top triangle_top
    → Forest s m n b' e' t' edge_top triangle_top
planted_forest {s} can long wide orders lent p =
    let edges = grown_same p.over_edges in
    let triangles = grown_same p.over_triangles in
    let room = can.room in
    let start = p.filled.kept.same in
    record {
      edges_lent = orders;
      triangles_lent = lent;
      boxed =
          boxed_stays (same_less {less = edge_nodes s} (omega arith) triangles)
          (boxed_stays edges p.filled.boxed (omega arith))
          (omega arith);
      over_edges =
          tree_stays triangles
          (grown_tree p.over_edges (omega arith) (omega (arith, can.few_edges)) (omega arith) long)
          (levels_inside p.over_edges (omega arith));
      edges_from = first_level p.over_edges;
      over_triangles = grown_tree p.over_triangles (omega arith) (omega (arith, can.few_triangles)) (omega (arith, edges.long)) wide;
      triangles_from = first_level p.over_triangles;
      few_vertices = can.few_vertices;
      few_edges = can.few_edges;
      few_triangles = can.few_triangles;
      ends = λ m k h l. known_inside (vertex_count s) s.edges can.drawable.ends (2 * m + k) (omega arith);
      corners = λ m k h l. known_inside (vertex_count s) s.triangles can.drawable.corners (3 * m + k) (omega arith);
    }

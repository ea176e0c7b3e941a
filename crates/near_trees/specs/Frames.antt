-- Nodes over a mesh's edges and over its triangles at one time, from a box of a list on. The boxes of the parts need not stand there any more.
use Rattle.std.specs.Prelude.{ℕ, suc, ◌+◌, ◌*◌, ◌≤◌, ◌<◌, List, ◌≡◌, refl, ℤ, pos, length, get_or}
use Rattle.std.proofs.Common.{sym, ap, ◌∙◌, arith}
use Rattle.meaning.specs.Scene.{Scene, vertex_count, edge_count, triangle_count}
use Rattle.meaning.specs.StoredBoxes.{Box, box_at, BoxesStand}
use Rattle.meaning.specs.Near.{second_span_at}
use Rattle.meaning.specs.MeshRows.{tree_room}
use Rattle.meaning.specs.declared.Frame.{Frame}
use Rattle.meaning.specs.declared.Kind.TheVariants.{PointTriangle, EdgeEdge}
use Rattle.list_boxes.specs.Storing.{same_box}
use Rattle.mesh_tree.specs.Levels.{nodes_at, node_box, node_same}
use Rattle.mesh_tree.specs.Grown.{nodes_up_to, level_place, room_enough, Height, Grown}
use Rattle.mesh_tree.specs.Once.{one_height}
use Rattle.mesh_boxes.specs.Joining.{FilledAs}
use Rattle.frame_boxes.specs.Spots.{vertex_box_at}
use Rattle.near_boxes.specs.Far.{second_box_at}

-- the room for the nodes of both trees
abbrev pub node_room : Scene → ℕ
node_room s = tree_room (edge_count s) + tree_room (triangle_count s)

-- for so many numbers near rows go by nodes of both times
abbrev pub frames_room : Scene → ℕ
frames_room s = 6 * (vertex_count s + edge_count s + triangle_count s + 3 * node_room s)

-- the levels above the parts, as high as a tree is
pub record FrameNodes (f : Frame) (s : Scene) (l : List ℤ) (to : ℕ) : Type 0 where
  pub edges : (top v : ℕ) → Height (edge_count s) top → v < top
      → BoxesStand l (to + nodes_up_to (edge_count s) v) (nodes_at (edge_count s) (suc v)) (node_box (second_box_at f s EdgeEdge) (edge_count s) (suc v))
  pub triangles : (top v : ℕ) → Height (triangle_count s) top → v < top
      → BoxesStand l (to + tree_room (edge_count s) + nodes_up_to (triangle_count s) v) (nodes_at (triangle_count s) (suc v))
      (node_box (second_box_at f s PointTriangle) (triangle_count s) (suc v))

-- lists that have the same boxes from a bound on
pub record SameFrom (l l' : List ℤ) (bound : ℕ) : Type 0 where
  pub at : (i : ℕ) → 6 * bound ≤ i → get_or l' i (pos 0) ≡ get_or l i (pos 0)
  pub long : length l' ≡ length l

pub same_then : {l l₁ l₂ : List ℤ} {bound : ℕ} → SameFrom l l₁ bound → SameFrom l₁ l₂ bound → SameFrom l l₂ bound
same_then p q = record { at = λ i h. q.at i h ∙ p.at i h; long = q.long ∙ p.long }

pub same_later : {l l' : List ℤ} {bound later : ℕ} → bound ≤ later → SameFrom l l' bound → SameFrom l l' later
same_later h so = record { at = λ i k. so.at i (omega arith); long = so.long }

-- a node stands below the room of its tree
pub node_low : {n top : ℕ} (v : ℕ) → Height n top → v < top → nodes_up_to n v + nodes_at n (suc v) ≤ tree_room n
unfolding nodes_up_to
node_low {n} v h below = room_enough n (suc v) (omega (arith, h.most))

stand_stays : {l l' : List ℤ} {bound first count : ℕ} {want : ℕ → Box} → SameFrom l l' bound → bound ≤ first → BoxesStand l first count want
    → BoxesStand l' first count want
stand_stays {l} {l'} {first = first} so h b = record { at = λ i p. same_box l l' (first + i) (λ n q r. so.at n (omega arith)) ∙ b.at i p }

pub frame_stays : {f : Frame} {s : Scene} {l l' : List ℤ} {to bound : ℕ} → bound ≤ to → SameFrom l l' bound → FrameNodes f s l to → FrameNodes f s l' to
frame_stays h so b =
    record {
      edges = λ top v k p. stand_stays so (omega arith) (b.edges top v k p);
      triangles = λ top v k p. stand_stays so (omega arith) (b.triangles top v k p);
    }

-- ---- two trees are grown over the boxes of one time

module _ {l l' : List ℤ} {t t' : List ℕ} {first n to top : ℕ} (g : Grown l l' t t' first n to top) where
  pub grown_from : SameFrom l l' (to + tree_room n)
  grown_from =
      record { at = λ i h. g.nodes.behind i (omega (arith, room_enough n top g.height.most)); long = g.nodes.same }

  pub grown_front : (k : ℕ) → k < to → box_at l' k ≡ box_at l k
  grown_front k h = same_box l l' k (λ i p q. g.nodes.front i (omega arith))

  pub grown_nodes : (want : ℕ → Box) → ((j : ℕ) → j < n → box_at l (first + j) ≡ want j) → (other v : ℕ) → Height n other → v < other
      → BoxesStand l' (to + nodes_up_to n v) (nodes_at n (suc v)) (node_box want n (suc v))
  unfolding level_place
  grown_nodes want leaves other v h below =
      let same : other ≡ top = one_height h g.height in
      record {
        at = λ i p.
            (g.nodes.nodes (suc v) (omega arith)).at i p
            ∙ node_same (λ j. box_at l (first + j)) want n (suc v) i leaves p;
      }

module _ (f : Frame) (s : Scene) {l l₁ l₂ l₃ : List ℤ} {e e' t t' : List ℕ} {to edge_top triangle_top : ℕ}
    (filled : FilledAs s (vertex_box_at f s) l l₁)
    (over_edges : Grown l₁ l₂ e e' (vertex_count s) (edge_count s) to edge_top)
    (over_triangles : Grown l₂ l₃ t t' (vertex_count s + edge_count s) (triangle_count s) (to + tree_room (edge_count s)) triangle_top)
    (behind : vertex_count s + edge_count s + triangle_count s ≤ to) where
  edge_leaves : (j : ℕ) → j < edge_count s → box_at l₁ (vertex_count s + j) ≡ second_box_at f s EdgeEdge j
  unfolding second_span_at
  edge_leaves j h = filled.boxed.edges.at j h

  triangle_leaves : (j : ℕ) → j < triangle_count s → box_at l₂ (vertex_count s + edge_count s + j) ≡ second_box_at f s PointTriangle j
  unfolding second_span_at
  triangle_leaves j h = grown_front over_edges (vertex_count s + edge_count s + j) (omega arith) ∙ filled.boxed.triangles.at j h

  edge_stays : (top v : ℕ) → Height (edge_count s) top → v < top
      → BoxesStand l₃ (to + nodes_up_to (edge_count s) v) (nodes_at (edge_count s) (suc v)) (node_box (second_box_at f s EdgeEdge) (edge_count s) (suc v))
  edge_stays top v h below =
      let low = node_low v h below in
      record {
        at = λ i p.
            grown_front over_triangles (to + nodes_up_to (edge_count s) v + i) (omega arith)
            ∙ (grown_nodes over_edges (second_box_at f s EdgeEdge) edge_leaves top v h below).at i p;
      }

  pub frame_planted : FrameNodes f s l₃ to
  frame_planted = record { edges = edge_stays; triangles = grown_nodes over_triangles (second_box_at f s PointTriangle) triangle_leaves }

  pub frame_from : SameFrom l l₃ (to + node_room s)
  frame_from =
      let fill : SameFrom l l₁ (to + node_room s) = record { at = λ i h. filled.kept.at i (omega arith); long = filled.kept.same } in
      let one = same_later {later = to + node_room s} (omega arith) (grown_from over_edges) in
      let two = same_later {later = to + node_room s} (omega arith) (grown_from over_triangles) in
      same_then fill (same_then one two)

-- by counts that were taken
pub record FramePlanted (f : Frame) (s : Scene) (l l' : List ℤ) (to : ℕ) : Type 0 where
  pub nodes : FrameNodes f s l' to
  pub kept : SameFrom l l' (to + node_room s)

pub frame_done : (f : Frame) (s : Scene) {l l₁ l₂ l₃ : List ℤ} {e e' t t' : List ℕ} {to edge_top triangle_top v n m room : ℕ}
    → v ≡ vertex_count s → n ≡ edge_count s → m ≡ triangle_count s → room ≡ tree_room n → vertex_count s + edge_count s + triangle_count s ≤ to
    → FilledAs s (vertex_box_at f s) l l₁ → Grown l₁ l₂ e e' v n to edge_top → Grown l₂ l₃ t t' (v + n) m (to + room) triangle_top
    → FramePlanted f s l l₃ to
frame_done f s a b c r behind filled one two =
    let first = rw (a, b) at one in
    let second = rw (r, a, b, c) at two in
    record { nodes = frame_planted f s filled first second behind; kept = frame_from f s filled first second behind }

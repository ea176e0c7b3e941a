-- What the look decides: boxes that it finds nothing against are the scene's, and the scene's are found nothing against.
use Rattle.std.specs.Prelude.{ℕ, ◌+◌, ◌*◌, ◌≤◌, ◌<◌, Bool, true, false, ◌||◌, List, ◌≡◌, ℤ, pos, length, get_or}
use Rattle.std.proofs.Common.{◌∙◌, zero-add, arith}
use Rattle.sequences.specs.Pick.{neither}
use Rattle.meaning.specs.Scene.{Scene, vertex_count, edge_count, triangle_count, edge_end, corner, some_below}
use Rattle.meaning.specs.StoredBoxes.{span_at, box_at, vertex_box, edge_box, triangle_box, edge_place, triangle_place, VerticesIn, Boxed, other_span, other_box, stale_vertex, stale_edge, stale_triangle, stale_box}
use Rattle.answers.specs.Below.{none_passes}
use Rattle.list_boxes.specs.Kept.{between, numbers_between, joint_box}
use Rattle.list_boxes.specs.Parts.{Ready, end_known, corner_known}
use Rattle.stored_look.specs.Telling.{same_box}

-- the boxes of vertices against which nothing was found
pub vertices_right : (s : Scene) (b : List ℤ) → some_below (vertex_count s) (stale_vertex s b) ≡ false → VerticesIn s b
vertices_right s b e =
    record { at = λ v h. rw zero-add (same_box (box_at b v) (vertex_box s v) (none_passes (stale_vertex s b) (vertex_count s) e v h)) }

-- 17 does not hold: each stored box is the one worked out
pub boxes_right : (s : Scene) (b : List ℤ) → 6 * (vertex_count s + edge_count s + triangle_count s) ≤ length b → stale_box s b ≡ false → Boxed s b
boxes_right s b room e =
    let (most, t) = neither (some_below (vertex_count s) (stale_vertex s b) || some_below (edge_count s) (stale_edge s b)) (some_below (triangle_count s) (stale_triangle s b)) e in
    let (v, d) = neither (some_below (vertex_count s) (stale_vertex s b)) (some_below (edge_count s) (stale_edge s b)) most in
    record {
      vertices = vertices_right s b v;
      edges = record { at = λ j h. same_box (box_at b (edge_place s j)) (edge_box s j) (none_passes (stale_edge s b) (edge_count s) d j h) };
      triangles = record { at = λ j h. same_box (box_at b (triangle_place s j)) (triangle_box s j) (none_passes (stale_triangle s b) (triangle_count s) t j h) };
      room = room;
    }

vertex_in : (s : Scene) (b : List ℤ) → VerticesIn s b → (v : ℕ) → v < vertex_count s → box_at b v ≡ vertex_box s v
vertex_in s b so v h = rw zero-add at (so.at v h)

-- a vertex's box is held against the positions
pub vertex_told : (s : Scene) (b : List ℤ) (v : ℕ) {x y z : Bool} → x ≡ other_span (span_at b (6 * v)) (numbers_between s.positions (6 * v))
    → y ≡ other_span (span_at b (6 * v + 1)) (numbers_between s.positions (6 * v + 1))
    → z ≡ other_span (span_at b (6 * v + 2)) (numbers_between s.positions (6 * v + 2)) → (x || y) || z ≡ stale_vertex s b v
vertex_told s b v p q r =
    let y : 6 * v + 1 + 3 ≡ 6 * v + 3 + 1 = omega arith in
    let z : 6 * v + 2 + 3 ≡ 6 * v + 3 + 2 = omega arith in
    let number : ℕ → ℤ = λ n. get_or s.positions n (pos 0) in
    (λ t. (p t || q t) || r t)
    ∙ λ t.
    (other_span (span_at b (6 * v)) (numbers_between s.positions (6 * v))
    || other_span (span_at b (6 * v + 1)) (between (number (6 * v + 1)) (number (y t))))
    || other_span (span_at b (6 * v + 2)) (between (number (6 * v + 2)) (number (z t)))

-- an edge's and a triangle's box is held against those of its vertices
module _ {s : Scene} {b : List ℤ} {place : ℕ} (ready : Ready s s.edges b place) (j : ℕ) (there : j < edge_count s) where
  pub edge_told : {r : Bool} {k a c : ℕ} → k ≡ place → a ≡ edge_end s j 0 → c ≡ edge_end s j 1
      → r ≡ other_box (box_at b k) (joint_box (box_at b a) (box_at b c)) → r ≡ other_box (box_at b place) (edge_box s j)
  edge_told {r} {k} {a} {c} o p q e =
      let one : box_at b a ≡ vertex_box s (edge_end s j 0) = rw p (vertex_in s b ready.vertices (edge_end s j 0) (end_known ready j there 0 (omega arith))) in
      let two : box_at b c ≡ vertex_box s (edge_end s j 1) = rw q (vertex_in s b ready.vertices (edge_end s j 1) (end_known ready j there 1 (omega arith))) in
      e ∙ λ t. other_box (box_at b (o t)) (joint_box (one t) (two t))

module _ {s : Scene} {b : List ℤ} {place : ℕ} (ready : Ready s s.triangles b place) (j : ℕ) (there : j < triangle_count s) where
  pub triangle_told : {r : Bool} {k a c d : ℕ} → k ≡ place → a ≡ corner s j 0 → c ≡ corner s j 1 → d ≡ corner s j 2
      → r ≡ other_box (box_at b k) (joint_box (joint_box (box_at b a) (box_at b c)) (box_at b d)) → r ≡ other_box (box_at b place) (triangle_box s j)
  triangle_told {r} {k} {a} {c} {d} o p q u e =
      let one : box_at b a ≡ vertex_box s (corner s j 0) = rw p (vertex_in s b ready.vertices (corner s j 0) (corner_known ready j there 0 (omega arith))) in
      let two : box_at b c ≡ vertex_box s (corner s j 1) = rw q (vertex_in s b ready.vertices (corner s j 1) (corner_known ready j there 1 (omega arith))) in
      let three : box_at b d ≡ vertex_box s (corner s j 2) = rw u (vertex_in s b ready.vertices (corner s j 2) (corner_known ready j there 2 (omega arith))) in
      e ∙ λ t. other_box (box_at b (o t)) (joint_box (joint_box (one t) (two t)) (three t))

-- ---- the whole look

module _ (s : Scene) (b : List ℤ) where
  pub stale_by_vertex : some_below (vertex_count s) (stale_vertex s b) ≡ true → true ≡ stale_box s b
  stale_by_vertex e = rw e

  pub stale_by_rest : {d t : Bool} → some_below (vertex_count s) (stale_vertex s b) ≡ false → d ≡ some_below (edge_count s) (stale_edge s b)
      → t ≡ some_below (triangle_count s) (stale_triangle s b) → d || t ≡ stale_box s b
  stale_by_rest e p q = rw (e, p, q)

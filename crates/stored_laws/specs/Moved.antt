-- The scene after a move that nothing refuses is accepted, and boxes that were right stay right.
use Rattle.std.specs.Prelude.{ℕ, ◌+◌, ◌*◌, ◌-◌, ◌≤◌, ◌<◌, Bool, true, false, cond, ◌||◌, List, ◌≢◌, ◌⊎◌, ◌≡◌, refl, leb, eqb, ℤ, pos, length, get_or}
use Rattle.std.proofs.Common.{inl, inr, ⊎_elim, sym, ap, subst, ◌∙◌, zero-add, arith, le-ltb}
use Rattle.std.proofs.lemmas.Bool.{eqb-false}
use Rattle.sequences.specs.Pick.{either, neither}
use Rattle.sequences.specs.Range.{le_or_lt}
use Rattle.meaning.specs.Limits.{coordinate_limit}
use Rattle.meaning.specs.Scene.{Scene, scene_of, Accepted, vertex_count, edge_count, triangle_count, seam_count, edge_end, corner, sewn, onto, beyond, outside, wrong_shape, unknown_vertex, comes_apart, not_rising, replaced, wrong_seam}
use Rattle.meaning.specs.Boxes.{Axis, vertex_span, joint}
use Rattle.meaning.specs.StoredBoxes.{Box, box_of, box_at, vertex_box, edge_box, triangle_box, edge_place, triangle_place, Boxed}
use Rattle.meaning.specs.Dragging.{placed, moved_scene, new_outside, tears_seam, edge_has, triangle_has, BoxesMoved}
use Rattle.answers.specs.Below.{or_left, none_passes, none_below}
use Rattle.scene_checks.specs.Facts.{accepted_coordinate}
use Rattle.list_boxes.specs.Kept.{joint_box, between}
use Rattle.stored_laws.specs.Placed.{placed_length, placed_here, placed_other, placed_elsewhere}

module _ (s : Scene) (v : ℕ) (c : List ℤ) where
  same_count : vertex_count (moved_scene s v c) ≡ vertex_count s
  same_count = rw (placed_length s.positions v c)

  abbrev after : ℕ → ℤ
  after n = get_or (placed s.positions v c) n (pos 0)

  -- ---- accepted

  module _ (a : Accepted s) (there : v < vertex_count s) (range : new_outside c ≡ false) (whole : tears_seam s v c ≡ false) where
    in_range_lem : (i : ℕ) → i < length (placed s.positions v c) → beyond coordinate_limit (after i) ≡ false
    in_range_lem i h =
        ⊎_elim
        (λ from.
        ⊎_elim
        (λ past. rw (placed_other s.positions v c i (inr past)) (le-ltb coordinate_limit _ (accepted_coordinate a i)))
        (λ within.
        let place : 6 * v + (i - 6 * v) ≡ i = omega arith in
        let value : after i ≡ get_or c (i - 6 * v) (pos 0) =
        ap after (sym place) ∙ placed_here s.positions v c (omega arith) (i - 6 * v) (omega arith) in
        rw value (none_passes (λ k. outside (get_or c k (pos 0))) 6 range (i - 6 * v) (omega arith)))
        (le_or_lt (6 * v + 6) i))
        (λ front. rw (placed_other s.positions v c i (inl front)) (le-ltb coordinate_limit _ (accepted_coordinate a i)))
        (le_or_lt (6 * v) i)

    seam_whole : (k : ℕ) → k < seam_count s → wrong_seam (moved_scene s v c) k ≡ false
    seam_whole k h =
        let rules = not_rising s k || leb (sewn s k) (onto s k) || replaced s (onto s k) in
        let fine : rules ≡ false = or_left rules (comes_apart s (sewn s k) (onto s k)) (none_passes (wrong_seam s) (seam_count s) a.sewn_well k h) in
        let apart : comes_apart (moved_scene s v c) (sewn s k) (onto s k) ≡ false =
        none_passes (λ m. comes_apart (moved_scene s v c) (sewn s m) (onto s m)) (seam_count s) whole k h in
        (λ t. fine t || apart t)

    pub moved_accepted : Accepted (moved_scene s v c)
    moved_accepted =
        record {
          shapely = rw (placed_length s.positions v c) a.shapely;
          in_range = none_below (λ i. beyond coordinate_limit (after i)) (length (placed s.positions v c)) in_range_lem;
          known = rw (placed_length s.positions v c) a.known;
          sewn_well = none_below (wrong_seam (moved_scene s v c)) (seam_count s) seam_whole;
          distinct = a.distinct;
        }

  -- ---- the boxes of parts without the vertex are the old ones

  abbrev number : List ℤ → ℕ → ℤ
  number p n = get_or p n (pos 0)

  same_vertex : (u : ℕ) → u ≢ v → vertex_box (moved_scene s v c) u ≡ vertex_box s u
  same_vertex u n =
      let at : (k : ℕ) → k < 6 → after (6 * u + k) ≡ number s.positions (6 * u + k) = λ k h. placed_elsewhere s.positions v c u k n h in
      let near : (k : ℕ) (m : ℕ) → m ≡ 6 * u + k → k < 6 → after m ≡ number s.positions m = λ k m e h. rw e (at k h) in
      let x0 = near 0 (6 * u) (omega arith) (omega arith) in
      let y0 = near 1 (6 * u + 1) (omega arith) (omega arith) in
      let z0 = near 2 (6 * u + 2) (omega arith) (omega arith) in
      let x1 = near 3 (6 * u + 3) (omega arith) (omega arith) in
      let y1 = near 4 (6 * u + 3 + 1) (omega arith) (omega arith) in
      let z1 = near 5 (6 * u + 3 + 2) (omega arith) (omega arith) in
      λ t. record { x = between (x0 t) (x1 t); y = between (y0 t) (y1 t); z = between (z0 t) (z1 t) }

  same_edge : (j : ℕ) → edge_has s v j ≡ false → edge_box (moved_scene s v c) j ≡ edge_box s j
  same_edge j e =
      let (one, two) = neither (eqb (edge_end s j 0) v) (eqb (edge_end s j 1) v) e in
      let p = same_vertex (edge_end s j 0) (eqb-false (edge_end s j 0) v one) in
      let q = same_vertex (edge_end s j 1) (eqb-false (edge_end s j 1) v two) in
      λ t. joint_box (p t) (q t)

  same_triangle : (j : ℕ) → triangle_has s v j ≡ false → triangle_box (moved_scene s v c) j ≡ triangle_box s j
  same_triangle j e =
      let (most, three) = neither (eqb (corner s j 0) v || eqb (corner s j 1) v) (eqb (corner s j 2) v) e in
      let (one, two) = neither (eqb (corner s j 0) v) (eqb (corner s j 1) v) most in
      let p = same_vertex (corner s j 0) (eqb-false (corner s j 0) v one) in
      let q = same_vertex (corner s j 1) (eqb-false (corner s j 1) v two) in
      let r = same_vertex (corner s j 2) (eqb-false (corner s j 2) v three) in
      λ t. joint_box (joint_box (p t) (q t)) (r t)

  -- ---- right boxes stay right

  chosen_right : (has : Bool) (new old : Box) {x : Box} → (has ≡ false → new ≡ old) → x ≡ old → cond has new x ≡ new
  chosen_right true new old f e = refl
  chosen_right false new old f e = e ∙ sym (f refl)

  pub boxes_stay_right : {b b' : List ℤ} → Boxed s b → BoxesMoved (moved_scene s v c) v b b' → Boxed (moved_scene s v c) b'
  boxes_stay_right {b} {b'} so m =
      record {
        vertices = record {
          at = λ u h.
              rw zero-add
              (m.vertices u h
              ∙ chosen_right (eqb u v) (vertex_box (moved_scene s v c) u) (vertex_box s u) (λ e. same_vertex u (eqb-false u v e))
              (rw zero-add at (so.vertices.at u (rw same_count at h))));
        };
        edges = record {
          at = λ j h.
              m.edges j h
              ∙ chosen_right (edge_has s v j) (edge_box (moved_scene s v c) j) (edge_box s j) (same_edge j)
              (rw (← same_count) at (so.edges.at j h));
        };
        triangles = record {
          at = λ j h.
              m.triangles j h
              ∙ chosen_right (triangle_has s v j) (triangle_box (moved_scene s v c) j) (triangle_box s j) (same_triangle j)
              (rw (← same_count) at (so.triangles.at j h));
        };
        room = rw (same_count, m.behind.same) so.room;
      }

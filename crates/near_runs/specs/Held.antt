-- Boxes that hold the first parts of a run of rows, at the start and at the end: they are widened vertex by vertex.
use Rattle.std.specs.Prelude.{ℕ, ◌+◌, ◌*◌, ◌≤◌, ◌<◌, List, ◌≢◌, ◌≡◌, ℤ, length}
use Rattle.std.proofs.Common.{⊎_elim, sym, ap, ◌∙◌, subst, not-le_of_lt, arith}
use Rattle.whole.specs.Vector.{Vector}
use Rattle.sequences.specs.Range.{le_or_lt}
use Rattle.meaning.specs.Limits.{part_limit}
use Rattle.meaning.specs.Scene.{Scene, vertex_count, edge_count, vector_at, edge_end}
use Rattle.meaning.specs.StoredBoxes.{Box, box_of, box_at}
use Rattle.meaning.specs.Near.{first_span_at}
use Rattle.meaning.specs.declared.Frame.{Frame}
use Rattle.meaning.specs.declared.Frame.TheVariants.{Start, End}
use Rattle.meaning.specs.declared.Kind.{Kind}
use Rattle.meaning.specs.declared.Kind.TheVariants.{PointTriangle, EdgeEdge}
use Rattle.list_candidates.specs.Rows.{first_count}
use Rattle.list_boxes.specs.Kept.{joint_box}
use Rattle.list_boxes.specs.Storing.{with_span, with_box, BoxStored, box_stored, others_kept}
use Rattle.pierced_pair.specs.Vertices.{offset_of, offset_where}
use Rattle.frame_boxes.specs.Spots.{spot_span, vertex_box_at}
use Rattle.near_boxes.specs.Far.{first_box_at, Inside, inside_then, inside_left, inside_right, both_inside}

-- the box of one place
abbrev pub place_box : Vector → Box
place_box p = box_of (λ a. record { low = a p; high = a p })

module _ (p l : List ℤ) (k from : ℕ) {l₁ l₂ l₃ : List ℤ} (first : l₁ ≡ with_span l (6 * k) (spot_span p from))
    (second : l₂ ≡ with_span l₁ (6 * k + 1) (spot_span p (from + 1))) (third : l₃ ≡ with_span l₂ (6 * k + 2) (spot_span p (from + 2))) where
  pub place_stored : 6 * k + 5 < length l → BoxStored l k (place_box (vector_at p from)) l₃
  place_stored h =
      let whole : l₃ ≡ with_box l k (place_box (vector_at p from)) =
      third
      ∙ λ t. with_span ((second ∙ λ u. with_span (first u) (6 * k + 1) (spot_span p (from + 1))) t) (6 * k + 2) (spot_span p (from + 2)) in
      subst (BoxStored l k (place_box (vector_at p from))) (sym whole) (box_stored l k (place_box (vector_at p from)) h)

-- box `to` of a list, which is its first or its second, now holds another box too
pub record Widened (b : Box) (o o' : List ℤ) (to : ℕ) : Type 0 where
  pub here : Inside b (box_at o' to)
  pub grows : Inside (box_at o to) (box_at o' to)
  pub other : (k : ℕ) → k < 2 → k ≢ to → box_at o' k ≡ box_at o k
  pub same : length o' ≡ length o

-- the place of a vertex is stored as the third box, and joined
pub widened_place : (f : Frame) (s : Scene) (v from to : ℕ) {o o₁ o₂ : List ℤ} → from ≡ offset_of f v → to < 2
    → BoxStored o 2 (place_box (vector_at s.positions from)) o₁ → BoxStored o₁ to (joint_box (box_at o₁ to) (box_at o₁ 2)) o₂
    → Widened (vertex_box_at f s v) o o₂ to
widened_place f s v from to {o} {o₁} {o₂} is low stored joined =
    let spot : box_at o₁ 2 ≡ vertex_box_at f s v = stored.here ∙ ap place_box (ap (vector_at s.positions) is ∙ offset_where f s v) in
    let old : box_at o₁ to ≡ box_at o to = others_kept stored to (omega arith) in
    let made : box_at o₂ to ≡ joint_box (box_at o to) (vertex_box_at f s v) = joined.here ∙ λ t. joint_box (old t) (spot t) in
    record {
      here = rw made (inside_right (box_at o to) (vertex_box_at f s v));
      grows = rw made (inside_left (box_at o to) (vertex_box_at f s v));
      other = λ k h ne. others_kept joined k ne ∙ others_kept stored k (omega arith);
      same = joined.same ∙ stored.same;
    }

widened_then : {b c : Box} {o o₁ o₂ : List ℤ} {to : ℕ} → Widened b o o₁ to → Widened c o₁ o₂ to → Widened (joint_box b c) o o₂ to
widened_then p q =
    record {
      here = both_inside (inside_then p.here q.grows) q.here;
      grows = inside_then p.grows q.grows;
      other = λ k h ne. q.other k h ne ∙ p.other k h ne;
      same = q.same ∙ p.same;
    }

-- what is known of the vertices
pub record Known (s : Scene) : Type 0 where
  pub few : vertex_count s ≤ part_limit
  pub ends : (m k : ℕ) → m < edge_count s → k < 2 → edge_end s m k < vertex_count s

module _ (s : Scene) {kind : Kind} {i : ℕ} (there : i < first_count s kind) where
  pub vertex_there : kind ≡ PointTriangle → i < vertex_count s
  unfolding first_count
  vertex_there e = rw e at there

  pub edge_there : kind ≡ EdgeEdge → i < edge_count s
  unfolding first_count
  edge_there e = rw e at there

-- a first part: a vertex, or an edge by its ends
module _ (f : Frame) (s : Scene) {kind : Kind} (i : ℕ) {o o₁ : List ℤ} {to : ℕ} where
  pub vertex_widened : kind ≡ PointTriangle → Widened (vertex_box_at f s i) o o₁ to → Widened (first_box_at f s kind i) o o₁ to
  unfolding first_span_at
  vertex_widened e p = rw e p

  pub edge_widened : {o₂ : List ℤ} {a b : ℕ} → kind ≡ EdgeEdge → a ≡ edge_end s i 0 → b ≡ edge_end s i 1 → Widened (vertex_box_at f s a) o o₁ to
      → Widened (vertex_box_at f s b) o₁ o₂ to → Widened (first_box_at f s kind i) o o₂ to
  unfolding first_span_at
  edge_widened e x y p q = rw e (widened_then (rw x at p) (rw y at q))

-- boxes 0 and 1 hold all first parts from one up to another, at the start and at the end
pub record Held (s : Scene) (kind : Kind) (first end : ℕ) (o : List ℤ) : Type 0 where
  pub at_start : (i : ℕ) → first ≤ i → i < end → Inside (first_box_at Start s kind i) (box_at o 0)
  pub at_end : (i : ℕ) → first ≤ i → i < end → Inside (first_box_at End s kind i) (box_at o 1)

pub held_none : (s : Scene) (kind : Kind) (first : ℕ) (o : List ℤ) → Held s kind first first o
held_none s kind first o = record { at_start = λ i h k. absurd (not-le_of_lt k h); at_end = λ i h k. absurd (not-le_of_lt k h) }

pub held_next : {s : Scene} {kind : Kind} {first i : ℕ} {o o₁ o₂ : List ℤ} → Held s kind first i o
    → Widened (first_box_at Start s kind i) o o₁ 0 → Widened (first_box_at End s kind i) o₁ o₂ 1 → Held s kind first (i + 1) o₂
held_next {s} {kind} {first} {i} {o} {o₁} {o₂} so p q =
    let zero_kept : box_at o₂ 0 ≡ box_at o₁ 0 = q.other 0 (omega arith) (omega arith) in
    let one_kept : box_at o₁ 1 ≡ box_at o 1 = p.other 1 (omega arith) (omega arith) in
    record {
      at_start = λ j low high.
          ⊎_elim
          (λ last. let here : j ≡ i = omega arith in rw (here, zero_kept) p.here)
          (λ before. rw zero_kept (inside_then (so.at_start j low before) p.grows))
          (le_or_lt i j);
      at_end = λ j low high.
          ⊎_elim
          (λ last. let here : j ≡ i = omega arith in rw here q.here)
          (λ before. inside_then (rw (← one_kept) at (so.at_end j low before)) q.grows)
          (le_or_lt i j);
    }

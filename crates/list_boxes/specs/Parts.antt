-- When the box of an edge or of a triangle can be worked out from those of the vertices, and that it is then the right one.
use Rattle.std.specs.Prelude.{ℕ, ◌+◌, ◌*◌, ◌≤◌, ◌<◌, false, ◌||◌, List, ◌≡◌, ℤ, length}
use Rattle.std.proofs.Common.{◌∙◌, subst, zero-add, arith}
use Rattle.meaning.specs.Scene.{Scene, Accepted, vertex_count, edge_count, triangle_count, edge_end, corner, unknown_in}
use Rattle.answers.specs.Below.{or_left, or_rest}
use Rattle.scene_checks.specs.Facts.{known_inside, edge_inside, triangle_inside, accepted_sized}
use Rattle.meaning.specs.StoredBoxes.{Box, box_numbers, box_at, vertex_box, edge_box, triangle_box, VerticesIn}
use Rattle.list_boxes.specs.Kept.{joint_box}
use Rattle.list_boxes.specs.Storing.{BoxStored, others_kept}

-- every end and every corner is a vertex, and there is room for a box of each part
abbrev pub Drawn : Scene → Type 0
Drawn s =
    (unknown_in (vertex_count s) s.edges ≡ false) × (unknown_in (vertex_count s) s.triangles ≡ false)
    × (6 * (vertex_count s + edge_count s + triangle_count s) ≤ box_numbers)

pub accepted_drawn : {s : Scene} → Accepted s → Drawn s
accepted_drawn {s} a =
    let e = unknown_in (vertex_count s) s.edges in
    let t = unknown_in (vertex_count s) s.triangles in
    let w = unknown_in (vertex_count s) s.seams in
    (or_left e t (or_left (e || t) w a.known), or_rest e t (or_left (e || t) w a.known), omega (arith, accepted_sized a))

-- the vertices' boxes stand in the list, all numbers of a list of ends or corners are vertices, and a box has its place behind theirs
pub record Ready (s : Scene) (corners : List ℕ) (l : List ℤ) (place : ℕ) : Type 0 where
  pub known : unknown_in (vertex_count s) corners ≡ false
  pub vertices : VerticesIn s l
  pub behind : vertex_count s ≤ place
  pub room : 6 * place + 5 < length l

vertex_in : (s : Scene) (l : List ℤ) → VerticesIn s l → (v : ℕ) → v < vertex_count s → box_at l v ≡ vertex_box s v
vertex_in s l so v h = rw zero-add at (so.at v h)

module _ {s : Scene} {l : List ℤ} {place : ℕ} (ready : Ready s s.edges l place) (j : ℕ) (there : j < edge_count s) where
  pub end_known : (k : ℕ) → k < 2 → edge_end s j k < vertex_count s
  end_known k h = known_inside (vertex_count s) s.edges ready.known (2 * j + k) (edge_inside s j k there h)

  pub edge_stored : {l' : List ℤ} {k a b : ℕ} → k ≡ place → a ≡ edge_end s j 0 → b ≡ edge_end s j 1
      → BoxStored l k (joint_box (box_at l a) (box_at l b)) l' → BoxStored l place (edge_box s j) l'
  edge_stored {l'} o p q stored =
      let one = vertex_in s l ready.vertices (edge_end s j 0) (end_known 0 (omega arith)) in
      let two = vertex_in s l ready.vertices (edge_end s j 1) (end_known 1 (omega arith)) in
      let e : joint_box (box_at l (edge_end s j 0)) (box_at l (edge_end s j 1)) ≡ edge_box s j = λ t. joint_box (one t) (two t) in
      subst (λ (x : Box). BoxStored l place x l') e (rw (o, p, q) at stored)

module _ {s : Scene} {l : List ℤ} {place : ℕ} (ready : Ready s s.triangles l place) (j : ℕ) (there : j < triangle_count s) where
  pub corner_known : (k : ℕ) → k < 3 → corner s j k < vertex_count s
  corner_known k h = known_inside (vertex_count s) s.triangles ready.known (3 * j + k) (triangle_inside s j k there h)

  -- the joint box of the first two corners is stored first, and then its joint box with the third
  pub triangle_stored : {l₁ l₂ : List ℤ} {k a b c : ℕ} → k ≡ place → a ≡ corner s j 0 → b ≡ corner s j 1 → c ≡ corner s j 2
      → BoxStored l k (joint_box (box_at l a) (box_at l b)) l₁ → BoxStored l₁ k (joint_box (box_at l₁ k) (box_at l₁ c)) l₂
      → BoxStored l place (triangle_box s j) l₂
  triangle_stored {l₁} {l₂} {k} {a} {b} {c} o p q r first second =
      let one : box_at l a ≡ vertex_box s (corner s j 0) = rw p (vertex_in s l ready.vertices (corner s j 0) (corner_known 0 (omega arith))) in
      let two : box_at l b ≡ vertex_box s (corner s j 1) = rw q (vertex_in s l ready.vertices (corner s j 1) (corner_known 1 (omega arith))) in
      let away = corner_known 2 (omega arith) in
      let three : box_at l₁ c ≡ vertex_box s (corner s j 2) =
      others_kept first c (omega (arith, ready.behind)) ∙ rw r (vertex_in s l ready.vertices (corner s j 2) away) in
      let half = first.here ∙ λ t. joint_box (one t) (two t) in
      rw (← o) (record {
        here = second.here ∙ λ t. joint_box (half t) (three t);
        front = λ n h. second.front n h ∙ first.front n h;
        behind = λ n h. second.behind n h ∙ first.behind n h;
        same = second.same ∙ first.same;
      })

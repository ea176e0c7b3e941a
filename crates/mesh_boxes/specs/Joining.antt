-- The boxes of edges and triangles are joined from those of the vertices that stand in the list, whatever these are: the swept ones, or those of
-- one time.
use Rattle.std.specs.Prelude.{ℕ, ◌+◌, ◌*◌, ◌≤◌, ◌<◌, false, List, ◌≡◌, ℤ, length}
use Rattle.std.proofs.Common.{◌∙◌, ap, subst, zero-add, arith}
use Rattle.meaning.specs.Scene.{Scene, vertex_count, edge_count, triangle_count, edge_end, corner, unknown_in}
use Rattle.meaning.specs.StoredBoxes.{Box, box_at, BoxesStand, KeptBehind}
use Rattle.scene_checks.specs.Facts.{known_inside, edge_inside, triangle_inside}
use Rattle.list_boxes.specs.Kept.{joint_box}
use Rattle.list_boxes.specs.Storing.{BoxStored, others_kept}
use Rattle.list_boxes.specs.Filling.{kept_then}
use Rattle.mesh_boxes.specs.Drawing.{Drawable}
use Rattle.mesh_boxes.specs.Led.{part_of, OrderLent, part_itself, part_inside}

-- by the boxes of the vertices
abbrev pub joined_edge : Scene → (ℕ → Box) → ℕ → Box
joined_edge s b j = joint_box (b (edge_end s j 0)) (b (edge_end s j 1))

abbrev pub joined_triangle : Scene → (ℕ → Box) → ℕ → Box
joined_triangle s b j = joint_box (joint_box (b (corner s j 0)) (b (corner s j 1))) (b (corner s j 2))

-- the boxes of all parts stand in the list, by those of the vertices, edges and triangles as two lists lead
pub record BoxedBy (s : Scene) (b : ℕ → Box) (e t : List ℕ) (l : List ℤ) : Type 0 where
  pub vertices : BoxesStand l 0 (vertex_count s) b
  pub edges : BoxesStand l (vertex_count s) (edge_count s) (λ k. joined_edge s b (part_of e k))
  pub triangles : BoxesStand l (vertex_count s + edge_count s) (triangle_count s) (λ k. joined_triangle s b (part_of t k))
  pub room : 6 * (vertex_count s + edge_count s + triangle_count s) ≤ length l

pub record FilledBy (s : Scene) (b : ℕ → Box) (e t : List ℕ) (l l' : List ℤ) : Type 0 where
  pub boxed : BoxedBy s b e t l'
  pub kept : KeptBehind l l' (vertex_count s + edge_count s + triangle_count s)

-- each in its own place
pub record BoxedAs (s : Scene) (b : ℕ → Box) (l : List ℤ) : Type 0 where
  pub vertices : BoxesStand l 0 (vertex_count s) b
  pub edges : BoxesStand l (vertex_count s) (edge_count s) (joined_edge s b)
  pub triangles : BoxesStand l (vertex_count s + edge_count s) (triangle_count s) (joined_triangle s b)
  pub room : 6 * (vertex_count s + edge_count s + triangle_count s) ≤ length l

pub record FilledAs (s : Scene) (b : ℕ → Box) (l l' : List ℤ) : Type 0 where
  pub boxed : BoxedAs s b l'
  pub kept : KeptBehind l l' (vertex_count s + edge_count s + triangle_count s)

-- all numbers of a list of ends or corners are vertices, and a box has its place behind theirs
pub record Joinable (s : Scene) (corners : List ℕ) (l : List ℤ) (place : ℕ) : Type 0 where
  pub known : unknown_in (vertex_count s) corners ≡ false
  pub behind : vertex_count s ≤ place
  pub room : 6 * place + 5 < length l

stands_there : {l : List ℤ} {n : ℕ} {b : ℕ → Box} → BoxesStand l 0 n b → (v : ℕ) → v < n → box_at l v ≡ b v
stands_there so v h = rw zero-add at (so.at v h)

module _ (s : Scene) (known : unknown_in (vertex_count s) s.edges ≡ false) (j : ℕ) (there : j < edge_count s) where
  pub end_inside : (k : ℕ) → k < 2 → edge_end s j k < vertex_count s
  end_inside k h = known_inside (vertex_count s) s.edges known (2 * j + k) (edge_inside s j k there h)

  pub edge_as : {l : List ℤ} {b : ℕ → Box} → BoxesStand l 0 (vertex_count s) b → joined_edge s (box_at l) j ≡ joined_edge s b j
  edge_as so =
      let one = stands_there so (edge_end s j 0) (end_inside 0 (omega arith)) in
      let two = stands_there so (edge_end s j 1) (end_inside 1 (omega arith)) in
      λ t. joint_box (one t) (two t)

module _ (s : Scene) (known : unknown_in (vertex_count s) s.triangles ≡ false) (j : ℕ) (there : j < triangle_count s) where
  pub corner_inside : (k : ℕ) → k < 3 → corner s j k < vertex_count s
  corner_inside k h = known_inside (vertex_count s) s.triangles known (3 * j + k) (triangle_inside s j k there h)

  pub triangle_as : {l : List ℤ} {b : ℕ → Box} → BoxesStand l 0 (vertex_count s) b → joined_triangle s (box_at l) j ≡ joined_triangle s b j
  triangle_as so =
      let one = stands_there so (corner s j 0) (corner_inside 0 (omega arith)) in
      let two = stands_there so (corner s j 1) (corner_inside 1 (omega arith)) in
      let three = stands_there so (corner s j 2) (corner_inside 2 (omega arith)) in
      λ t. joint_box (joint_box (one t) (two t)) (three t)

-- ---- one box is stored

pub edge_joined : (s : Scene) (l : List ℤ) (place j : ℕ) {l' : List ℤ} {k a b : ℕ} → k ≡ place → a ≡ edge_end s j 0 → b ≡ edge_end s j 1
    → BoxStored l k (joint_box (box_at l a) (box_at l b)) l' → BoxStored l place (joined_edge s (box_at l) j) l'
edge_joined s l place j o p q stored = rw (o, p, q) at stored

-- the joint box of the first two corners is stored first, and then its joint box with the third
pub triangle_joined : {s : Scene} {l : List ℤ} {place : ℕ} → Joinable s s.triangles l place → (j : ℕ) → j < triangle_count s
    → {l₁ l₂ : List ℤ} {k a b c : ℕ} → k ≡ place → a ≡ corner s j 0 → b ≡ corner s j 1 → c ≡ corner s j 2
    → BoxStored l k (joint_box (box_at l a) (box_at l b)) l₁ → BoxStored l₁ k (joint_box (box_at l₁ k) (box_at l₁ c)) l₂
    → BoxStored l place (joined_triangle s (box_at l) j) l₂
triangle_joined {s} {l} {place} can j there {l₁} {l₂} {k} {a} {b} {c} o p q r first second =
    let away = corner_inside s can.known j there 2 (omega arith) in
    let three : box_at l₁ c ≡ box_at l c = others_kept first c (omega (arith, can.behind)) in
    let half = first.here in
    rw (← o, ← p, ← q, ← r) (record {
      here = second.here ∙ λ t. joint_box (half t) (three t);
      front = λ n h. second.front n h ∙ first.front n h;
      behind = λ n h. second.behind n h ∙ first.behind n h;
      same = second.same ∙ first.same;
    })

-- a box that is the wanted one by the vertices' boxes as they were
pub edge_stored_as : (s : Scene) (known : unknown_in (vertex_count s) s.edges ≡ false) (j : ℕ) → j < edge_count s
    → {l l' : List ℤ} {b : ℕ → Box} {place : ℕ} → BoxesStand l 0 (vertex_count s) b → BoxStored l place (joined_edge s (box_at l) j) l'
    → BoxStored l place (joined_edge s b j) l'
edge_stored_as s known j there {l} {l'} {place = place} so stored = subst (λ (x : Box). BoxStored l place x l') (edge_as s known j there so) stored

pub triangle_stored_as : (s : Scene) (known : unknown_in (vertex_count s) s.triangles ≡ false) (j : ℕ) → j < triangle_count s
    → {l l' : List ℤ} {b : ℕ → Box} {place : ℕ} → BoxesStand l 0 (vertex_count s) b → BoxStored l place (joined_triangle s (box_at l) j) l'
    → BoxStored l place (joined_triangle s b j) l'
triangle_stored_as s known j there {l} {l'} {place = place} so stored =
    subst (λ (x : Box). BoxStored l place x l') (triangle_as s known j there so) stored

-- ---- all of them

pub stands_itself : (l : List ℤ) (n : ℕ) → BoxesStand l 0 n (box_at l)
stands_itself l n = record { at = λ i h. ap (box_at l) (zero-add i) }

pub stands_less : {l : List ℤ} {first n m : ℕ} {b : ℕ → Box} → m ≤ n → BoxesStand l first n b → BoxesStand l first m b
stands_less h so = record { at = λ i p. so.at i (omega arith) }

pub stands_then : {l l' : List ℤ} {first count n : ℕ} {b : ℕ → Box} → BoxesStand l' 0 n (box_at l) → first + count ≤ n
    → BoxesStand l first count b → BoxesStand l' first count b
stands_then {first = first} front h so = record { at = λ i p. stands_there front (first + i) (omega arith) ∙ so.at i p }

-- first the edges, then the triangles: both by the vertices' boxes as they were at first
module _ (s : Scene) {l l₁ l₂ : List ℤ} {e t : List ℕ} (can : Drawable s l) (known : OrderLent (triangle_count s) t) where
  pub joined_parts : BoxesStand l₁ 0 (vertex_count s) (box_at l)
      → BoxesStand l₁ (vertex_count s) (edge_count s) (λ k. joined_edge s (box_at l) (part_of e k))
      → KeptBehind l l₁ (vertex_count s + edge_count s)
      → BoxesStand l₂ 0 (vertex_count s + edge_count s) (box_at l₁)
      → BoxesStand l₂ (vertex_count s + edge_count s) (triangle_count s) (λ k. joined_triangle s (box_at l₁) (part_of t k))
      → KeptBehind l₁ l₂ (vertex_count s + edge_count s + triangle_count s)
      → FilledBy s (box_at l) e t l l₂
  joined_parts front edges before kept triangles after =
      record {
        boxed = record {
          vertices = stands_then kept (omega arith) front;
          edges = stands_then kept (omega arith) edges;
          triangles = record {
            at = λ i p. triangles.at i p ∙ triangle_as s can.corners (part_of t i) (part_inside known i p) front;
          };
          room = omega (arith, can.room, before.same, after.same);
        };
        kept = kept_then before after (omega arith);
      }

-- filled in over boxes of the vertices that are b
module _ {s : Scene} {l l₁ l₂ : List ℤ} {b : ℕ → Box} {e t : List ℕ} (can : Drawable s l) (edges : OrderLent (edge_count s) e) (triangles : OrderLent (triangle_count s) t) where
  pub filled_by : BoxesStand l₁ 0 (vertex_count s) b → KeptBehind l l₁ (vertex_count s) → FilledBy s (box_at l₁) e t l₁ l₂ → FilledBy s b e t l l₂
  filled_by so before filled =
      let boxed = filled.boxed in
      record {
        boxed = record {
          vertices = record { at = λ i p. boxed.vertices.at i p ∙ stands_there so i p };
          edges = record {
            at = λ i p. boxed.edges.at i p ∙ edge_as s can.ends (part_of e i) (part_inside edges i p) so;
          };
          triangles = record {
            at = λ i p. boxed.triangles.at i p ∙ triangle_as s can.corners (part_of t i) (part_inside triangles i p) so;
          };
          room = boxed.room;
        };
        kept = kept_then before filled.kept (omega arith);
      }

-- where no order is lent each stands in its own place
pub filled_as : {s : Scene} {l l' : List ℤ} {b : ℕ → Box} (e t : List ℕ) → length e ≡ 0 → length t ≡ 0 → FilledBy s b e t l l' → FilledAs s b l l'
filled_as {s} {b = b} e t bare plain filled =
    let boxed = filled.boxed in
    record {
      boxed = record {
        vertices = boxed.vertices;
        edges = record { at = λ i p. boxed.edges.at i p ∙ ap (joined_edge s b) (part_itself e i bare) };
        triangles = record { at = λ i p. boxed.triangles.at i p ∙ ap (joined_triangle s b) (part_itself t i plain) };
        room = boxed.room;
      };
      kept = filled.kept;
    }

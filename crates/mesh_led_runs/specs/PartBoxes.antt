-- Boxes of parts from those of their vertices, which stand in front of the same list as a tree.
use Rattle.std.specs.Prelude.{ℕ, ◌+◌, ◌*◌, ◌<◌, List, ◌≡◌, ℤ, length}
use Rattle.std.proofs.Common.{◌∙◌, zero-add, arith}
use Rattle.meaning.specs.Scene.{Scene, vertex_count, edge_count, triangle_count, edge_end, corner}
use Rattle.meaning.specs.StoredBoxes.{Box, box_at, vertex_box}
use Rattle.meaning.specs.declared.Kind.{Kind}
use Rattle.meaning.specs.declared.Kind.TheVariants.{PointTriangle, EdgeEdge}
use Rattle.scene_seams.specs.Alone.{only_edges, only_triangles}
use Rattle.list_boxes.specs.Kept.{joint_box}
use Rattle.list_boxes.specs.Storing.{BoxStored, others_kept}
use Rattle.list_candidates.specs.Rows.{first_count, second_count}
use Rattle.mesh_order_rows.specs.Led.{vertex_of, first_box, second_box, LedTree, own_box_lem}

-- ---- a box is put in a list: those in front of it are as they were, and what stands behind it is of no account

pub record PutInFront (l : List ℤ) (k : ℕ) (b : Box) (l' : List ℤ) : Type 0 where
  pub here : box_at l' k ≡ b
  pub before : (i : ℕ) → i < k → box_at l' i ≡ box_at l i
  pub same : length l' ≡ length l

module _ {l l₁ l₂ : List ℤ} {to : ℕ} where
  -- a vertex's box is copied behind, and joined from there
  pub widened : {spare : ℕ} {v : Box} → to < spare → BoxStored l spare v l₁ → BoxStored l₁ to (joint_box (box_at l₁ to) (box_at l₁ spare)) l₂
      → PutInFront l to (joint_box (box_at l to) v) l₂
  widened {spare} apart copied joined =
      let one = others_kept copied to (omega arith) in
      let two = copied.here in
      record {
        here = joined.here ∙ λ t. joint_box (one t) (two t);
        before = λ i h. others_kept joined i (omega arith) ∙ others_kept copied i (omega arith);
        same = joined.same ∙ copied.same;
      }

  -- one box is copied, and then widened by another
  pub copied_widened : {p : Box} (q : Box) → BoxStored l to p l₁ → PutInFront l₁ to (joint_box (box_at l₁ to) q) l₂ → PutInFront l to (joint_box p q) l₂
  copied_widened q copied wide =
      let one = copied.here in
      record {
        here = wide.here ∙ λ t. joint_box (one t) q;
        before = λ i h. wide.before i h ∙ others_kept copied i (omega arith);
        same = wide.same ∙ copied.same;
      }

-- and once more
pub widened_again : {l l₁ l₂ : List ℤ} {to : ℕ} {p : Box} (q : Box) → PutInFront l to p l₁ → PutInFront l₁ to (joint_box (box_at l₁ to) q) l₂
    → PutInFront l to (joint_box p q) l₂
widened_again q one two =
    let first = one.here in
    record {
      here = two.here ∙ λ t. joint_box (first t) q;
      before = λ i h. two.before i h ∙ one.before i h;
      same = two.same ∙ one.same;
    }

-- ---- parts

-- of a first part, as its row goes by it
abbrev pub own_box : List ℕ → List ℤ → Kind → ℕ → Box
own_box e l kind i = joint_box (box_at l (vertex_of e kind i 0)) (box_at l (vertex_of e kind i 1))

-- of an edge and of a triangle
abbrev pub edge_joint : List ℕ → List ℤ → ℕ → Box
edge_joint e l j = joint_box (box_at l (edge_end (only_edges e) j 0)) (box_at l (edge_end (only_edges e) j 1))

abbrev pub triangle_joint : List ℕ → List ℤ → ℕ → Box
triangle_joint t l j =
    joint_box (joint_box (box_at l (corner (only_triangles t) j 0)) (box_at l (corner (only_triangles t) j 1))) (box_at l (corner (only_triangles t) j 2))

unfoldable pub part_box : List ℕ → List ℕ → List ℤ → Kind → ℕ → Box
part_box e t l PointTriangle j = triangle_joint t l j
part_box e t l EdgeEdge j = edge_joint e l j

-- a second part is there, and the boxes of its vertices in a list of so many numbers
pub record PartThere (e t : List ℕ) (kind : Kind) (j n : ℕ) : Type 0 where
  pub edge : kind ≡ EdgeEdge → j < edge_count (only_edges e)
  pub ends : kind ≡ EdgeEdge → (k : ℕ) → k < 2 → 6 * edge_end (only_edges e) j k + 5 < n
  pub triangle : kind ≡ PointTriangle → j < triangle_count (only_triangles t)
  pub corners : kind ≡ PointTriangle → (k : ℕ) → k < 3 → 6 * corner (only_triangles t) j k + 5 < n

module _ {s : Scene} {kind : Kind} {l : List ℤ} {t : List ℕ} {parts top : ℕ} {o : List ℕ} (so : LedTree s kind l t parts top o) where
  pub own_is : (i : ℕ) → i < first_count s kind → own_box s.edges l kind i ≡ first_box s kind i
  own_is i h = own_box_lem so i h kind h

  module _ (j : ℕ) (there : j < parts) where
    known : j < second_count s kind
    known = omega (arith, so.all)

    is_edge : (kind : Kind) → j < second_count s kind → kind ≡ EdgeEdge → j < edge_count s
    unfolding second_count
    is_edge kind h e = rw e at h

    is_triangle : (kind : Kind) → j < second_count s kind → kind ≡ PointTriangle → j < triangle_count s
    unfolding second_count
    is_triangle kind h e = rw e at h

    pub part_there : PartThere s.edges s.triangles kind j (length l)
    part_there =
        record {
          edge = is_edge kind known;
          ends = λ e k h. omega (arith, so.ends j k (is_edge kind known e) h, so.room);
          triangle = is_triangle kind known;
          corners = λ e k h. omega (arith, so.corners j k (is_triangle kind known e) h, so.room);
        }

    vertex_box_lem : (v : ℕ) → v < vertex_count s → box_at l v ≡ vertex_box s v
    vertex_box_lem v h = rw zero-add at (so.vertices.at v h)

    by_kind : (kind : Kind) → j < second_count s kind → part_box s.edges s.triangles l kind j ≡ second_box s kind j
    unfolding second_count part_box second_box
    by_kind PointTriangle h =
        let one = vertex_box_lem (corner s j 0) (so.corners j 0 h (omega arith)) in
        let two = vertex_box_lem (corner s j 1) (so.corners j 1 h (omega arith)) in
        let three = vertex_box_lem (corner s j 2) (so.corners j 2 h (omega arith)) in
        λ u. joint_box (joint_box (one u) (two u)) (three u)
    by_kind EdgeEdge h =
        let one = vertex_box_lem (edge_end s j 0) (so.ends j 0 h (omega arith)) in
        let two = vertex_box_lem (edge_end s j 1) (so.ends j 1 h (omega arith)) in
        λ u. joint_box (one u) (two u)

    pub part_is : part_box s.edges s.triangles l kind j ≡ second_box s kind j
    part_is = by_kind kind known

-- A tree whose nodes above the parts stand twice more, each level a shift behind: with the joint boxes of the start, and with those of the end. And one
-- step of a walk over it that passes by what is far.
use Rattle.std.specs.Prelude.{ℕ, ◌+◌, ◌*◌, ◌-◌, ◌≤◌, ◌<◌, Bool, true, false, List, ◌≡◌, refl, ℤ, length, get_or}
use Rattle.std.proofs.Math.Bool.{not}
use Rattle.std.proofs.Common.{sym, ap, ◌∙◌, arith}
use Rattle.meaning.specs.Scene.{Scene, vertex_count, edge_count, triangle_count, edge_end, corner}
use Rattle.meaning.specs.StoredBoxes.{Box, box_at, BoxesStand}
use Rattle.meaning.specs.declared.Frame.TheVariants.{Start, End}
use Rattle.meaning.specs.declared.Kind.{Kind}
use Rattle.list_candidates.specs.Rows.{second_count}
use Rattle.mesh_tree.specs.Levels.{nodes_at, first_under, node_box}
use Rattle.mesh_walk.specs.Places.{Stepped, step_missed, step_down, step_found, down_same}
use Rattle.mesh_walk.specs.Steps.{Tree}
use Rattle.near_boxes.specs.Far.{far_boxes, second_box_at}
use Rattle.near_boxes.specs.Nodes.{node_far_lem}
use Rattle.near_boxes.specs.Parts.{Reached}

pub record Nodes (s : Scene) (kind : Kind) (l : List ℤ) (t : List ℕ) (shift n top : ℕ) : Type 0 where
  pub tree : Tree l t n top
  pub starts : (u : ℕ) → 0 < u → u ≤ top
      → BoxesStand l (get_or t (2 * u) 0 + shift) (nodes_at n u) (node_box (second_box_at Start s kind) n u)
  pub stops : (u : ℕ) → 0 < u → u ≤ top
      → BoxesStand l (get_or t (2 * u) 0 + shift + shift) (nodes_at n u) (node_box (second_box_at End s kind) n u)
  pub inside : (u : ℕ) → 0 < u → u ≤ top → 6 * (get_or t (2 * u) 0 + shift + shift + nodes_at n u) ≤ length l
  pub all : n ≡ second_count s kind
  pub ends : (m k : ℕ) → m < edge_count s → k < 2 → edge_end s m k < vertex_count s
  pub corners : (m k : ℕ) → m < triangle_count s → k < 3 → corner s m k < vertex_count s

-- far from the boxes 0 and 1 of a list, of the start and of the end: a node, or a part
abbrev pub node_far : List ℤ → Scene → Kind → ℕ → ℕ → ℕ → Bool
node_far o s kind n v r =
    far_boxes (box_at o 0) (box_at o 1) (node_box (second_box_at Start s kind) n v r) (node_box (second_box_at End s kind) n v r)

abbrev pub part_near : List ℤ → Scene → Kind → ℕ → Bool
part_near o s kind j = not (far_boxes (box_at o 0) (box_at o 1) (second_box_at Start s kind j) (second_box_at End s kind j))

module _ {s : Scene} {kind : Kind} {l : List ℤ} {t : List ℕ} {shift n top : ℕ} (so : Nodes s kind l t shift n top) (o : List ℤ) (v r : ℕ)
    (there : r < nodes_at n v) where
  -- of a part
  pub part_reached : v ≡ 0 → Reached s kind r
  unfolding nodes_at
  part_reached e =
      let part : r < n = rw e at there in
      record { there = omega (arith, so.all); ends = so.ends; corners = so.corners }

  pub part_apart : {apart : Bool} → v ≡ 0
      → apart ≡ far_boxes (box_at o 0) (box_at o 1) (second_box_at Start s kind r) (second_box_at End s kind r)
      → apart ≡ node_far o s kind n v r
  unfolding node_box
  part_apart e made = rw e made

  -- of a node
  pub node_apart : {apart : Bool} → 0 < v → v ≤ top
      → apart
      ≡ far_boxes (box_at o 0) (box_at o 1) (box_at l (get_or t (2 * v) 0 + shift + r)) (box_at l (get_or t (2 * v) 0 + shift + shift + r))
      → apart ≡ node_far o s kind n v r
  node_apart high at made =
      let start = (so.starts v high at).at r there in
      let stop = (so.stops v high at).at r there in
      made ∙ λ i. far_boxes (box_at o 0) (box_at o 1) (start i) (stop i)

  module _ (v' r' : ℕ) (apart : Bool) (made : apart ≡ node_far o s kind n v r) (low : v' ≤ top) where
    pub near_missed : {found : Bool} → found ≡ false → apart ≡ true → first_under v' r' ≡ first_under v (r + 1)
        → Stepped (part_near o s kind) n top v r v' r' found
    near_missed none e next =
        rw none
        (step_missed (part_near o s kind) n top v r v' r' low so.tree.low there
        (λ j from to here.
        ap not
        (node_far_lem (box_at o 0) (box_at o 1) (second_box_at Start s kind) (second_box_at End s kind) n v r (sym made ∙ e) j from to here))
        next)

    pub near_down : 0 < v → v' ≡ v - 1 → r' ≡ 16 * r → Stepped (part_near o s kind) n top v r v' r' false
    near_down high e same =
        step_down (part_near o s kind) n top v r v' r' low so.tree.low there high e (rw (e, same) (down_same v r high))

    pub near_found : {found : Bool} → found ≡ true → v ≡ 0 → apart ≡ false → first_under v' r' ≡ first_under v (r + 1)
        → Stepped (part_near o s kind) n top v r v' r' found
    unfolding node_box
    near_found one e passes next =
        rw one (step_found (part_near o s kind) n top v r v' r' low so.tree.low there e (ap not (sym (rw e at made) ∙ passes)) next)

-- A tree in a list of boxes, with the list of its levels; which parts a row meets; and one step of the walk of a row over it.
use Rattle.std.specs.Prelude.{ℕ, ◌+◌, ◌*◌, ◌-◌, ◌≤◌, ◌<◌, Bool, true, false, List, ◌≡◌, ℤ, length, get_or}
use Rattle.std.proofs.Common.{sym, ap, ◌∙◌, arith}
use Rattle.meaning.specs.StoredBoxes.{Box, box_at, BoxesStand}
use Rattle.meaning.specs.MeshRows.{tree_room}
use Rattle.list_boxes.specs.Kept.{meet_boxes}
use Rattle.list_boxes.specs.Storing.{same_box}
use Rattle.mesh_tree.specs.Levels.{nodes_at, first_under, node_box, node_same, node_skips}
use Rattle.mesh_tree.specs.Grown.{level_place, room_enough, levels_before, Grown}
use Rattle.mesh_walk.specs.Places.{Stepped, step_missed, step_down, step_found, down_same}

-- the box of the part in place j: level 0 stands where the levels say
abbrev pub leaf_box : List ℤ → List ℕ → ℕ → Box
leaf_box l t j = box_at l (get_or t 0 0 + j)

-- a tree of n parts stands in the list l, its levels in t
pub record Tree (l : List ℤ) (t : List ℕ) (n top : ℕ) : Type 0 where
  pub nodes : (u : ℕ) → u ≤ top → BoxesStand l (get_or t (2 * u) 0) (nodes_at n u) (node_box (leaf_box l t) n u)
  pub counts : (u : ℕ) → u ≤ top → get_or t (2 * u + 1) 0 ≡ nodes_at n u
  pub inside : (u : ℕ) → u ≤ top → 6 * (get_or t (2 * u) 0 + nodes_at n u) ≤ length l
  pub low : top ≤ 16
  pub room : 34 ≤ length t
  pub few : n ≤ 1152921504606846976

-- which parts a box meets; and where it is a row's, which stands in the list too
abbrev pub box_meets : Box → List ℤ → List ℕ → ℕ → Bool
box_meets b l t j = meet_boxes b (leaf_box l t j)

abbrev pub row_meets : List ℤ → List ℕ → ℕ → ℕ → Bool
row_meets l t row j = box_meets (box_at l row) l t j

-- ---- a tree that was grown is one

module _ {l l' : List ℤ} {t t' : List ℕ} {first n to top : ℕ} (so : Grown l l' t t' first n to top) (apart : first + n ≤ to) where
  leaves_first : get_or t' 0 0 ≡ first
  unfolding level_place
  leaves_first = so.levels.places 0 (omega arith)

  leaves_kept : (j : ℕ) → j < n → box_at l (first + j) ≡ leaf_box l' t' j
  leaves_kept j h =
      sym (same_box l l' (first + j) (λ i p q. so.nodes.front i (omega arith)))
      ∙ ap (λ (k : ℕ). box_at l' (k + j)) (sym leaves_first)

  pub grown_tree : n ≤ 1152921504606846976 → 6 * (to + tree_room n) ≤ length l → 34 ≤ length t → Tree l' t' n top
  unfolding level_place
  grown_tree few long room =
      let high = so.height.most in
      let same = so.nodes.same in
      let told = so.levels.same in
      record {
        nodes = λ u h.
            rw (so.levels.places u h) (record {
              at = λ i p.
                  (so.nodes.nodes u h).at i p
                  ∙ node_same (λ j. box_at l (first + j)) (leaf_box l' t') n u i leaves_kept p;
            });
        counts = λ u h. so.levels.counts u h;
        inside = λ u h.
            omega (arith, so.levels.places u h, levels_before first n to top apart u h, room_enough n top high);
        low = high;
        room = omega arith;
        few = few;
      }

-- ---- a step of the walk

module _ {l : List ℤ} {t : List ℕ} {n top : ℕ} (tree : Tree l t n top) (b : Box) (v r v' r' : ℕ) (at : v ≤ top)
    (there : r < nodes_at n v) (met : Bool) (made : met ≡ meet_boxes b (box_at l (get_or t (2 * v) 0 + r))) (low : v' ≤ top) where
  node_made : met ≡ meet_boxes b (node_box (leaf_box l t) n v r)
  node_made = made ∙ ap (λ (c : Box). meet_boxes b c) ((tree.nodes v at).at r there)

  pub walk_missed : {found : Bool} → found ≡ false → met ≡ false → first_under v' r' ≡ first_under v (r + 1)
      → Stepped (box_meets b l t) n top v r v' r' found
  walk_missed none e next =
      rw none
      (step_missed (box_meets b l t) n top v r v' r' low tree.low there
      (λ j low high there. node_skips b (leaf_box l t) n v r (sym node_made ∙ e) j low high there)
      next)

  pub walk_down : 0 < v → v' ≡ v - 1 → r' ≡ 16 * r → Stepped (box_meets b l t) n top v r v' r' false
  walk_down high e same =
      step_down (box_meets b l t) n top v r v' r' low tree.low there high e (rw (e, same) (down_same v r high))

  pub walk_found : {found : Bool} → found ≡ true → v ≡ 0 → met ≡ true → first_under v' r' ≡ first_under v (r + 1)
      → Stepped (box_meets b l t) n top v r v' r' found
  unfolding node_box
  walk_found one e passes next =
      rw one (step_found (box_meets b l t) n top v r v' r' low tree.low there e (sym (rw e at node_made) ∙ passes) next)

-- Runs of 16 of runs of 16, by place: how many nodes a level has, what stands under a node, and the box of a node, over any function from
-- places to boxes. Level 0 are the parts.
use Rattle.std.specs.Prelude.{ℕ, zero, suc, ◌+◌, ◌*◌, ◌-◌, ◌/◌, ◌≤◌, ◌<◌, min, false, ◌↔◌, ◌≡◌, refl}
use Rattle.std.proofs.Common.{⊎_elim, not-le_of_lt, arith}
use Rattle.sequences.specs.Range.{le_or_lt}
use Rattle.meaning.specs.Runs.{runs_of, run_from, run_to}
use Rattle.meaning.specs.StoredBoxes.{Box}
use Rattle.list_boxes.specs.Kept.{meet_boxes}
use Rattle.list_runs.specs.Joined.{joint_boxes, run_misses, joint_same}

-- how many nodes a level has over n parts
unfoldable pub nodes_at : ℕ → ℕ → ℕ
nodes_at n zero = n
nodes_at n (suc v) = runs_of (nodes_at n v)

-- the node of a level that stands above a part, and the first part under a node
unfoldable pub above : ℕ → ℕ → ℕ
above zero j = j
above (suc v) j = above v j / 16

unfoldable pub first_under : ℕ → ℕ → ℕ
first_under zero r = r
first_under (suc v) r = first_under v (16 * r)

-- the box of a node is the joint box of its 16, and of the last of a level that of what is left
unfoldable pub node_box : (ℕ → Box) → ℕ → ℕ → ℕ → Box
unfolding nodes_at
node_box f n zero r = f r
node_box f n (suc v) r = joint_boxes (node_box f n v) (run_from r) (run_to (nodes_at n v) r - run_from r - 1)

-- ---- places

-- a part stands under a node that is there
pub part_node : (n v j : ℕ) → j < n → above v j < nodes_at n v
unfolding nodes_at above
part_node n zero j h = h
part_node n (suc v) j h = let below = part_node n v j h in omega arith

reached : (v r j : ℕ) → first_under v r ≤ j → r ≤ above v j
unfolding above first_under
reached zero r j h = h
reached (suc v) r j h = let up = reached v (16 * r) j h in omega arith

reaches : (v r j : ℕ) → r ≤ above v j → first_under v r ≤ j
unfolding above first_under
reaches zero r j h = h
reaches (suc v) r j h = reaches v (16 * r) j (omega arith)

-- a part is not before a node's first exactly when the node above it is not before the node
pub under_exactly : (v r j : ℕ) → (first_under v r ≤ j) ↔ (r ≤ above v j)
under_exactly v r j = (reached v r j, reaches v r j)

-- the parts from a node's first to the next node's first are those under it
pub under_node : (v r j : ℕ) → first_under v r ≤ j → j < first_under v (r + 1) → above v j ≡ r
under_node v r j low high =
    let least = reached v r j low in
    ⊎_elim
    (λ past. absurd (not-le_of_lt high (reaches v (r + 1) j past)))
    (λ here. omega arith)
    (le_or_lt (r + 1) (above v j))

pub under_rises : (v r q : ℕ) → r < q → first_under v r < first_under v q
unfolding first_under
under_rises zero r q h = h
under_rises (suc v) r q h = under_rises v (16 * r) (16 * q) (omega arith)

-- behind the last node of a level there is no part, and only there
pub all_passed : (n v r : ℕ) → nodes_at n v ≤ r → n ≤ first_under v r
unfolding nodes_at first_under
all_passed n zero r h = h
all_passed n (suc v) r h = all_passed n v (16 * r) (omega arith)

pub passed_all : (n v r : ℕ) → n ≤ first_under v r → nodes_at n v ≤ r
unfolding nodes_at first_under
passed_all n zero r h = h
passed_all n (suc v) r h = let up = passed_all n v (16 * r) h in omega arith

-- ---- boxes

-- who misses a node's box misses every part under it
pub node_misses : (b : Box) (f : ℕ → Box) (n v r : ℕ) → meet_boxes b (node_box f n v r) ≡ false
    → (j : ℕ) → j < n → above v j ≡ r → meet_boxes b (f j) ≡ false
unfolding nodes_at above node_box
node_misses b f n zero r e j h here = rw here e
node_misses b f n (suc v) r e j h here =
    let there = part_node n v j h in
    node_misses b f n v (above v j)
    (run_misses b (node_box f n v) (run_from r) (run_to (nodes_at n v) r - run_from r - 1) e (above v j) (omega arith) (omega arith))
    j h refl

-- so a walk may go from the node's first part to the next node's
pub node_skips : (b : Box) (f : ℕ → Box) (n v r : ℕ) → meet_boxes b (node_box f n v r) ≡ false
    → (j : ℕ) → first_under v r ≤ j → j < first_under v (r + 1) → j < n → meet_boxes b (f j) ≡ false
node_skips b f n v r e j low high h = node_misses b f n v r e j h (under_node v r j low high)

-- the same parts have the same nodes
pub node_same : (f g : ℕ → Box) (n v r : ℕ) → ((j : ℕ) → j < n → f j ≡ g j) → r < nodes_at n v → node_box f n v r ≡ node_box g n v r
unfolding nodes_at node_box
node_same f g n zero r e h = e r h
node_same f g n (suc v) r e h =
    joint_same (node_box f n v) (node_box g n v) (run_from r) (run_to (nodes_at n v) r - run_from r - 1)
    (λ j p q. node_same f g n v j e (omega arith))

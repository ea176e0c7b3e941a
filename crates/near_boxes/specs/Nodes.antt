-- A node's box holds every part under it: who is far from a node's boxes at the start and at the end is far from each of these parts.
use Rattle.std.specs.Prelude.{ℕ, zero, suc, ◌+◌, ◌-◌, ◌/◌, ◌≤◌, ◌<◌, true, ◌≡◌, refl}
use Rattle.std.proofs.Common.{⊎_elim, arith}
use Rattle.sequences.specs.Range.{le_or_lt}
use Rattle.meaning.specs.Runs.{run_from, run_to}
use Rattle.meaning.specs.StoredBoxes.{Box}
use Rattle.list_runs.specs.Joined.{joint_boxes}
use Rattle.mesh_tree.specs.Levels.{nodes_at, above, first_under, node_box, part_node, under_node}
use Rattle.near_boxes.specs.Far.{far_boxes, Inside, inside_itself, inside_then, inside_left, inside_right, far_inside}

run_holds : (f : ℕ → Box) (i k j : ℕ) → i ≤ j → j < i + 1 + k → Inside (f j) (joint_boxes f i k)
unfolding joint_boxes
run_holds f i zero j h l =
    let here : j ≡ i = omega arith in
    rw here (inside_itself (f i))
run_holds f i (suc k) j h l =
    ⊎_elim
    (λ past. let here : j ≡ i + 1 + k = omega arith in rw here (inside_right (joint_boxes f i k) (f (i + 1 + k))))
    (λ before. inside_then (run_holds f i k j h before) (inside_left (joint_boxes f i k) (f (i + 1 + k))))
    (le_or_lt (i + 1 + k) j)

pub node_holds : (f : ℕ → Box) (n v j : ℕ) → j < n → Inside (f j) (node_box f n v (above v j))
unfolding nodes_at above node_box
node_holds f n zero j h = inside_itself (f j)
node_holds f n (suc v) j h =
    let there = part_node n v j h in
    let r = above v j / 16 in
    inside_then (node_holds f n v j h)
    (run_holds (node_box f n v) (run_from r) (run_to (nodes_at n v) r - run_from r - 1) (above v j) (omega arith) (omega arith))

-- so a walk may go from the node's first part to the next node's
pub node_far_lem : (b b' : Box) (f g : ℕ → Box) (n v r : ℕ) → far_boxes b b' (node_box f n v r) (node_box g n v r) ≡ true
    → (j : ℕ) → first_under v r ≤ j → j < first_under v (r + 1) → j < n → far_boxes b b' (f j) (g j) ≡ true
node_far_lem b b' f g n v r e j low high h =
    let here = under_node v r j low high in
    far_inside (inside_itself b) (inside_itself b')
    (rw here at (node_holds f n v j h))
    (rw here at (node_holds g n v j h))
    e

-- `pass_node`: a node that is missed has no part, one that is met is gone into, and of a 16 those that are met are put down.
use native.Mathlib.Omega.{arith}
use Prim.Native.Nat.{◌-◌, ◌*◌}
use mathlib.Core.Path.{refl}
use Rattle.meaning.specs.StoredBoxes.{box_at}
use Rattle.mesh_tree.specs.Grown.{fewer_nodes}
use Rattle.mesh_walk.specs.Places.{child_there}
use Rattle.mesh_walk.specs.Steps.{box_meets, walk_missed, walk_down}
use Rattle.mesh_walk.specs.Passing.{passed_by, passed_parts, parts_inside}
use Rattle.mesh_walk.proofs.sixteens.pass_node.Goals as goal

pub sixteen_end-end-requires : goal.sixteen_end-end-requires
sixteen_end-end-requires c =
    let start = c in
    (omega (arith, fewer_nodes start.args.parts start.args.level, start.requires.tree), start.requires.tree.0.few)

pub put_met-count-requires : goal.put_met-count-requires
put_met-count-requires c =
    let start = c in
    let tree = start.requires.tree.0 in
    let end = c.sixteen_end-end.ensures in record { row_in_bounds = (start.requires.tree.1, omega (arith, end, parts_inside tree), omega (arith, tree.room)); first_le_end = (omega (arith, end), omega (arith, end, start.requires.tree), start.requires.k_bound) }

pub returns-then-level-eq0 : goal.returns-then-level-eq0
returns-then-level-eq0 c =
    let start = c in
    let a = start.args in
    let tree = start.requires.tree.0 in
    let end = c.sixteen_end-end in
    let up = c.climb-behind in
    passed_parts (box_meets (box_at a.own.now a.row) a.boxes.now a.levels.now) a.parts a.top a.level a.node end.result up.result.level up.result.node
    c.if-level-eq0.true
    up.ensures.0
    tree.low
    end.ensures.0
    end.ensures.1
    up.ensures.1
    c.put_met-count.ensures

pub overflow_add-levels : goal.overflow_add-levels
overflow_add-levels c =
    let start = c in
    omega (arith, start.requires.tree.0.inside start.args.level start.requires.tree.2, start.requires.tree)

pub boxes_meet_flat-requires : goal.boxes_meet_flat-requires
boxes_meet_flat-requires c =
    let start = c in
    (start.requires.tree.1, omega (arith, start.requires.tree.0.inside start.args.level start.requires.tree.2, start.requires.tree))

pub overflow_mul-result : goal.overflow_mul-result
overflow_mul-result c =
    let start = c in
    let n = start.args.parts in
    let v = start.args.level in
    omega (arith, child_there n v start.args.node (omega (arith, c.if-level-eq0.false)) start.requires.tree.3, fewer_nodes n (v - 1), start.requires.tree.0.few)

pub returns-then-boxes_meet_flat : goal.returns-then-boxes_meet_flat
returns-then-boxes_meet_flat c =
    let start = c in
    let a = start.args in
    let v = a.level in
    let r = a.node in
    let met = c.boxes_meet_flat in
    passed_by a.list.now a.k
    (walk_down start.requires.tree.0 (box_at a.own.now a.row) v r (v - 1) (16 * r) start.requires.tree.2 start.requires.tree.3 met.result met.ensures
    (omega (arith, start.requires.tree.2))
    (omega (arith, c.if-level-eq0.false))
    refl
    refl)

pub overflow_add-node : goal.overflow_add-node
overflow_add-node c =
    let start = c in
    omega (arith, fewer_nodes start.args.parts start.args.level, start.requires.tree.0.few, start.requires.tree.3)

pub returns : goal.returns
returns c =
    let start = c in
    let a = start.args in
    let met = c.boxes_meet_flat in
    let up = c.climb-next in
    passed_by a.list.now a.k
    (walk_missed start.requires.tree.0 (box_at a.own.now a.row) a.level a.node up.result.level up.result.node start.requires.tree.2 start.requires.tree.3 met.result
    met.ensures
    up.ensures.0
    refl
    c.if-boxes_meet_flat.false
    up.ensures.1)

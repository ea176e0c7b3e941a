-- `step`: a node that is missed has no part, one that is met is gone into, and a part that is met is found.
use native.Mathlib.Omega.{arith}
use Prim.Native.Nat.{◌-◌, ◌*◌}
use mathlib.Core.Path.{refl}
use Rattle.meaning.specs.StoredBoxes.{box_at}
use Rattle.mesh_tree.specs.Grown.{fewer_nodes}
use Rattle.mesh_walk.specs.Places.{child_there}
use Rattle.mesh_walk.specs.Steps.{walk_missed, walk_down, walk_found}
use Rattle.mesh_walk.proofs.step.Goals as goal

pub overflow_add-place : goal.overflow_add-place
overflow_add-place c =
    let start = c in
    omega (arith, start.requires.0.inside start.args.level start.requires.2, start.requires)

pub boxes_meet-requires : goal.boxes_meet-requires
boxes_meet-requires c =
    let start = c in
    (start.requires.1, omega (arith, start.requires.0.inside start.args.level start.requires.2, start.requires))

pub overflow_mul-result : goal.overflow_mul-result
overflow_mul-result c =
    let start = c in
    let n = start.args.parts in
    let v = start.args.level in
    omega (arith, child_there n v start.args.node c.if-level-gt0.true start.requires.3, fewer_nodes n (v - 1), start.requires.0.few)

pub overflow_add-node : goal.overflow_add-node
overflow_add-node c =
    let start = c in
    omega (arith, fewer_nodes start.args.parts start.args.level, start.requires.0.few, start.requires.3)

pub overflow_add-node-else-boxes_meet : goal.overflow_add-node-else-boxes_meet
overflow_add-node-else-boxes_meet c =
    let start = c in
    omega (arith, fewer_nodes start.args.parts start.args.level, start.requires.0.few, start.requires.3)

pub returns-then-level-gt0 : goal.returns-then-level-gt0
returns-then-level-gt0 c =
    let start = c in
    let v = start.args.level in
    let r = start.args.node in
    let met = c.boxes_meet in
    walk_down start.requires.0 (box_at start.args.own.now start.args.row) v r (v - 1) (16 * r) start.requires.2 start.requires.3 met.result met.ensures
    (omega (arith, start.requires.2))
    c.if-level-gt0.true
    refl
    refl

pub returns-else-level-gt0 : goal.returns-else-level-gt0
returns-else-level-gt0 c =
    let start = c in
    let v = start.args.level in
    let r = start.args.node in
    let met = c.boxes_meet in
    let up = c.climb in
    walk_found start.requires.0 (box_at start.args.own.now start.args.row) v r up.result.level up.result.node start.requires.2 start.requires.3 met.result
    met.ensures
    up.ensures.0
    up.ensures.2
    (omega (arith, c.if-level-gt0.false))
    c.if-boxes_meet.true
    up.ensures.1

pub returns-else-boxes_meet : goal.returns-else-boxes_meet
returns-else-boxes_meet c =
    let start = c in
    let v = start.args.level in
    let r = start.args.node in
    let met = c.boxes_meet in
    let up = c.climb-else-boxes_meet in
    walk_missed start.requires.0 (box_at start.args.own.now start.args.row) v r up.result.level up.result.node start.requires.2 start.requires.3 met.result
    met.ensures
    up.ensures.0
    up.ensures.2
    c.if-boxes_meet.false
    up.ensures.1

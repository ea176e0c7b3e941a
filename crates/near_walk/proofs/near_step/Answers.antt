-- `near_step`: a node that is far has no part that is near, another is gone into, and a part that is not far is found.
use borrow.Author.Rules.{rules}
use native.Mathlib.Omega.{arith}
use Prim.Native.Nat.{◌-◌, ◌*◌}
use mathlib.Core.Path.{refl}
use Rattle.mesh_tree.specs.Grown.{fewer_nodes}
use Rattle.mesh_walk.specs.Places.{child_there}
use Rattle.near_walk.specs.Nodes.{near_missed, near_down, near_found}
use Rattle.near_walk.proofs.near_step.Goals as goal

pub overflow_add-node : goal.overflow_add-node
overflow_add-node c =
    let start = c in
    omega (arith, fewer_nodes start.args.parts start.args.level, start.requires.0.tree.few, start.requires.3)

pub overflow_mul-result : goal.overflow_mul-result
overflow_mul-result c =
    let start = c in
    let n = start.args.parts in
    let v = start.args.level in
    omega (arith, child_there n v start.args.node c.if-level-gt0.true start.requires.3, fewer_nodes n (v - 1), start.requires.0.tree.few)

pub overflow_add-node-else-level-gt0 : goal.overflow_add-node-else-level-gt0
overflow_add-node-else-level-gt0 c =
    let start = c in
    omega (arith, fewer_nodes start.args.parts start.args.level, start.requires.0.tree.few, start.requires.3)

pub returns-then-is_apart : goal.returns-then-is_apart
returns-then-is_apart c =
    let start = c in
    let far = c.is_apart in
    let up = c.climb in
    near_missed start.requires.0 start.args.own.now start.args.level start.args.node start.requires.3 up.result.level up.result.node far.result
    far.ensures
    up.ensures.0
    up.ensures.2
    c.if-is_apart.true
    up.ensures.1

pub returns-then-level-gt0 : goal.returns-then-level-gt0
returns-then-level-gt0 c =
    let start = c in
    let v = start.args.level in
    let r = start.args.node in
    let far = c.is_apart in
    near_down start.requires.0 start.args.own.now v r start.requires.3 (v - 1) (16 * r) far.result far.ensures
    (omega (arith, start.requires.2))
    c.if-level-gt0.true
    refl
    refl

pub returns-else-level-gt0 : goal.returns-else-level-gt0
returns-else-level-gt0 c =
    let start = c in
    let far = c.is_apart in
    let up = c.climb-else-level-gt0 in
    near_found start.requires.0 start.args.own.now start.args.level start.args.node start.requires.3 up.result.level up.result.node far.result
    far.ensures
    up.ensures.0
    up.ensures.2
    (omega (arith, c.if-level-gt0.false))
    c.if-is_apart.false
    up.ensures.1

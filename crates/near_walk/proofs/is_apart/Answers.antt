-- `is_apart`: a node by its boxes at both times, and a part by its corners.
use borrow.Author.Rules.{rules}
use native.Mathlib.Omega.{arith}
use Rattle.near_walk.specs.Nodes.{part_reached, part_apart, node_apart}
use Rattle.near_walk.proofs.is_apart.Goals as goal

pub overflow_add-first : goal.overflow_add-first
overflow_add-first c =
    let start = c in
    omega (arith, start.requires.0.inside start.args.level c.if-level-gt0.true start.requires.2, start.requires)

pub overflow_add-first-then-level-gt0 : goal.overflow_add-first-then-level-gt0
overflow_add-first-then-level-gt0 c =
    let start = c in
    omega (arith, start.requires.0.inside start.args.level c.if-level-gt0.true start.requires.2, start.requires)

pub overflow_add-first-then-level-gt0-2 : goal.overflow_add-first-then-level-gt0-2
overflow_add-first-then-level-gt0-2 c =
    let start = c in
    omega (arith, start.requires.0.inside start.args.level c.if-level-gt0.true start.requires.2, start.requires)

pub overflow_add-first-then-level-gt0-3 : goal.overflow_add-first-then-level-gt0-3
overflow_add-first-then-level-gt0-3 c =
    let start = c in
    omega (arith, start.requires.0.inside start.args.level c.if-level-gt0.true start.requires.2, start.requires)

pub boxes_far-requires : goal.boxes_far-requires
boxes_far-requires c =
    let start = c in
    let inside = start.requires.0.inside start.args.level c.if-level-gt0.true start.requires.2 in
    (start.requires.1, omega (arith, inside, start.requires), omega (arith, inside, start.requires))

pub part_far-requires : goal.part_far-requires
part_far-requires c =
    let start = c in
    (start.requires.1, part_reached start.requires.0 start.args.own.now start.args.level start.args.node start.requires.3 (omega (arith, c.if-level-gt0.false)))

pub returns-then-level-gt0 : goal.returns-then-level-gt0
returns-then-level-gt0 c =
    let start = c in
    node_apart start.requires.0 start.args.own.now start.args.level start.args.node start.requires.3 c.if-level-gt0.true start.requires.2 c.boxes_far.ensures

pub returns-else-level-gt0 : goal.returns-else-level-gt0
returns-else-level-gt0 c =
    let start = c in
    part_apart start.requires.0 start.args.own.now start.args.level start.args.node start.requires.3 (omega (arith, c.if-level-gt0.false)) c.part_far.ensures

use native.Mathlib.Omega.{arith}
use mathlib.Core.Path.{sym}
use Rattle.meaning.specs.StoredBoxes.{box_at}
use Rattle.mesh_tree.specs.Levels.{first_under}
use Rattle.mesh_walk.specs.Places.{places_from, places_start, places_end, places_few}
use Rattle.mesh_walk.specs.Steps.{box_meets}
use Rattle.mesh_walk.specs.PutDown.{finding_starts, finding_goes, finding_ends, finding_place, finding_long}
use Rattle.mesh_walk.proofs.sixteens.find_met.Goals as goal

pub climb-start-requires : goal.climb-start-requires
climb-start-requires c = (omega arith, c.requires.0.low)

pub loop-node-init : goal.loop-node-init
loop-node-init c =
    let a = c.args in
    let m = box_meets (box_at a.own.now a.row) a.boxes.now a.levels.now in
    let up = c.climb-start in
    let all = places_start m a.parts a.from up.result.level up.result.node up.ensures.1 in
    (up.ensures.0, finding_starts a.list.now (places_from m a.parts a.from) (places_from m a.parts (first_under up.result.level up.result.node)) (sym all))

pub overflow_mul-level : goal.overflow_mul-level
overflow_mul-level c = omega (arith, c.loop-node.invariant.0, c.requires.0.low)

pub overflow_add-level : goal.overflow_add-level
overflow_add-level c = omega (arith, c.loop-node.invariant.0, c.requires.0.low)

pub offset_bounds-levels-level : goal.offset_bounds-levels-level
offset_bounds-levels-level c = omega (arith, c.loop-node.invariant.0, c.requires.0.low)

pub bounds-levels-level : goal.bounds-levels-level
bounds-levels-level c =
    let tree = c.requires.0 in
    omega (arith, c.loop-node.invariant.0, tree.low, tree.room)

pub pass_node-next-requires : goal.pass_node-next-requires
pass_node-next-requires c =
    let start = c in
    let a = start.args in
    let loop = c.loop-node in
    let few = places_few (box_meets (box_at a.own.now a.row) a.boxes.now a.levels.now) a.parts a.from in record { tree = (start.requires.0, start.requires.1, loop.invariant.0, omega (arith, c.loop-node-test.true, start.requires.0.counts loop.level loop.invariant.0), start.requires.2); k_bound = omega (arith, finding_place loop.invariant.1, few, start.requires.2) }

pub loop-node-smaller : goal.loop-node-smaller
loop-node-smaller c = c.pass_node-next.ensures.falls

pub loop-node-preserved : goal.loop-node-preserved
loop-node-preserved c =
    let passed = c.pass_node-next.ensures in
    let so_far = c.loop-node.invariant.1 in
    (passed.low, finding_goes so_far passed.rest passed.put)

pub shape_of-list : goal.shape_of-list
shape_of-list c = finding_long c.loop-node.invariant.1

pub returns : goal.returns
returns c =
    let start = c in
    let a = start.args in
    let loop = c.loop-node in
    let m = box_meets (box_at a.own.now a.row) a.boxes.now a.levels.now in
    finding_ends loop.invariant.1
    (places_end m a.parts loop.level loop.node
    (omega (arith, c.loop-node-test.false, start.requires.0.counts loop.level loop.invariant.0)))

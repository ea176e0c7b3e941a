use native.Mathlib.Omega.{arith}
use Rattle.scene_seams.specs.Alone.{tabled}
use Rattle.mesh_walk.specs.Places.{found_there}
use Rattle.mesh_walk.specs.Steps.{row_meets}
use Rattle.mesh_entries.specs.Entering.{entering_place, entering_length}
use Rattle.pierced_walk.specs.Rows.{row_starts, row_goes, row_ends, row_few}
use Rattle.pierced_walk.proofs.rows.walk_edge.Goals as goal

pub climb-start-requires : goal.climb-start-requires
climb-start-requires c = (omega arith, c.requires.edge_row.tree.low)

pub loop-node-init : goal.loop-node-init
loop-node-init c =
    let start = c in
    let a = start.args in
    let up = c.climb-start in
    (up.ensures.0, row_starts start.requires.edge_row a.most a.at a.list.now up.result.level up.result.node up.ensures.1)

pub overflow_mul-level : goal.overflow_mul-level
overflow_mul-level c = omega (arith, c.loop-node.invariant.0, c.requires.edge_row.tree.low)

pub overflow_add-level : goal.overflow_add-level
overflow_add-level c = omega (arith, c.loop-node.invariant.0, c.requires.edge_row.tree.low)

pub offset_bounds-levels-level : goal.offset_bounds-levels-level
offset_bounds-levels-level c = omega (arith, c.loop-node.invariant.0, c.requires.edge_row.tree.low)

pub bounds-levels-level : goal.bounds-levels-level
bounds-levels-level c =
    let tree = c.requires.edge_row.tree in
    omega (arith, c.loop-node.invariant.0, tree.low, tree.room)

pub step-next-requires : goal.step-next-requires
step-next-requires c =
    let row = c.requires.edge_row in
    let loop = c.loop-node in
    (row.tree, row.inside, loop.invariant.0, omega (arith, c.loop-node-test.true, row.tree.counts loop.level loop.invariant.0))

pub enter_through-k-requires : goal.enter_through-k-requires
enter_through-k-requires c =
    let start = c in
    let row = start.requires.edge_row in
    let inv = c.loop-node.invariant in
    let stepped = c.step-next.ensures in record { sound = (row.sound, row.there, row.low, λ e. omega (arith, found_there stepped e, row.all), λ e. omega (arith, found_there stepped e, row.few)); most_in_bounds = (omega (arith, start.requires.most_in_bounds, entering_length inv.1), omega (arith, start.requires.most_in_bounds, entering_place inv.1, row_few row)) }

pub loop-node-smaller : goal.loop-node-smaller
loop-node-smaller c = c.step-next.ensures.falls

pub loop-node-preserved : goal.loop-node-preserved
loop-node-preserved c =
    let a = c.args in
    let stepped = c.step-next.ensures in
    (stepped.low, row_goes a.frame (tabled a.positions.now a.edges.now a.triangles.now a.stands.now) a.i c.loop-node.invariant.1 stepped c.enter_through-k.ensures)

pub shape_of-list : goal.shape_of-list
shape_of-list c = entering_length c.loop-node.invariant.1

pub returns : goal.returns
returns c =
    let start = c in
    let a = start.args in
    let loop = c.loop-node in
    row_ends a.frame (tabled a.positions.now a.edges.now a.triangles.now a.stands.now) a.i (row_meets a.boxes.now a.levels.now a.row) a.parts loop.level loop.node
    (omega (arith, c.loop-node-test.false, start.requires.edge_row.tree.counts loop.level loop.invariant.0))
    loop.invariant.1

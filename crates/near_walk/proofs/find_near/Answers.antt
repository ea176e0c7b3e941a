use native.Mathlib.Omega.{arith}
use Prim.Native.Nat.{◌+◌, ◌*◌, ◌-◌, ◌≤◌}
use lib.ListN.{length}
use Rattle.scene_seams.specs.Alone.{tabled}
use Rattle.mesh_tree.specs.Levels.{first_under}
use Rattle.mesh_entries.specs.Entering.{Entering, entering_starts, entering_as, entering_place, entering_length, entering_ends, entered_room}
use Rattle.mesh_walk.specs.Places.{places_from, places_start, places_end, places_few, entering_next, found_there}
use Rattle.near_walk.specs.Nodes.{part_near}
use Rattle.near_walk.proofs.find_near.Goals as goal

pub climb-start-requires : goal.climb-start-requires
climb-start-requires c = (omega arith, c.requires.0.tree.low)

pub loop-node-init : goal.loop-node-init
loop-node-init c =
    let a = c.args in
    let m = part_near a.own.now (tabled a.positions.now a.edges.now a.triangles.now a.stands.now) a.kind in
    let up = c.climb-start in
    let all = places_start m a.parts a.from up.result.level up.result.node up.ensures.1 in
    (up.ensures.0, entering_as all (entering_starts (length a.list.now) a.list.now 0 (places_from m a.parts a.from)))

pub overflow_mul-level : goal.overflow_mul-level
overflow_mul-level c = omega (arith, c.loop-node.invariant.0, c.requires.0.tree.low)

pub overflow_add-level : goal.overflow_add-level
overflow_add-level c = omega (arith, c.loop-node.invariant.0, c.requires.0.tree.low)

pub offset_bounds-levels-level : goal.offset_bounds-levels-level
offset_bounds-levels-level c = omega (arith, c.loop-node.invariant.0, c.requires.0.tree.low)

pub bounds-levels-level : goal.bounds-levels-level
bounds-levels-level c =
    let tree = c.requires.0.tree in
    omega (arith, c.loop-node.invariant.0, tree.low, tree.room)

pub near_step-next-requires : goal.near_step-next-requires
near_step-next-requires c =
    let start = c in
    let loop = c.loop-node in
    (start.requires.0, start.requires.1, loop.invariant.0, omega (arith, c.loop-node-test.true, start.requires.0.tree.counts loop.level loop.invariant.0))

pub put_near-k-requires : goal.put_near-k-requires
put_near-k-requires c =
    let start = c in
    let a = start.args in
    let m = part_near a.own.now (tabled a.positions.now a.edges.now a.triangles.now a.stands.now) a.kind in
    let few = places_few m a.parts a.from in (
      λ e. omega (arith, found_there c.near_step-next.ensures e, start.requires.2),
      omega (arith, entering_place c.loop-node.invariant.1, start.requires.2),
    )

pub loop-node-smaller : goal.loop-node-smaller
loop-node-smaller c = c.near_step-next.ensures.falls

pub loop-node-preserved : goal.loop-node-preserved
loop-node-preserved c =
    let stepped = c.near_step-next.ensures in
    let so_far = c.loop-node.invariant.1 in
    (stepped.low, entering_next stepped so_far (entered_room (entering_length so_far) c.put_near-k.ensures))

pub shape_of-list : goal.shape_of-list
shape_of-list c = entering_length c.loop-node.invariant.1

pub returns : goal.returns
returns c =
    let start = c in
    let a = start.args in
    let loop = c.loop-node in
    let m = part_near a.own.now (tabled a.positions.now a.edges.now a.triangles.now a.stands.now) a.kind in
    entering_ends
    (entering_as
    (places_end m a.parts loop.level loop.node
    (omega (arith, c.loop-node-test.false, start.requires.0.tree.counts loop.level loop.invariant.0)))
    loop.invariant.1)

use native.Mathlib.Omega.{arith}
use Prim.Native.Nat.{◌+◌, ◌*◌, ◌-◌, ◌≤◌, ◌<◌}
use lib.ListN.{length}
use Rattle.meaning.specs.StoredBoxes.{box_at}
use Rattle.scene_seams.specs.Alone.{tabled}
use Rattle.mesh_tree.specs.Levels.{nodes_at, first_under}
use Rattle.mesh_tree.specs.Grown.{fewer_nodes}
use Rattle.mesh_walk.specs.Places.{found_there}
use Rattle.mesh_walk.specs.Steps.{box_meets}
use Rattle.mesh_entries.specs.Entering.{Entering, entering_place, entering_length, entered_room}
use Rattle.mesh_order_rows.specs.Led.{led_rest, led_askable, led_starts, led_goes, led_ends, led_few}
use Rattle.mesh_order_rows.proofs.find_led.Goals as goal

pub climb-start-requires : goal.climb-start-requires
climb-start-requires c = (omega arith, c.requires.0.led.tree.low)

pub loop-node-init : goal.loop-node-init
loop-node-init c =
    let a = c.args in
    let up = c.climb-start in
    (up.ensures.0, led_starts a.which (tabled a.positions.now a.edges.now a.triangles.now a.stands.now) a.kind a.i a.order.now a.from (box_meets (box_at a.own.now 2) a.boxes.now a.levels.now) a.parts (length a.places.now) a.places.now up.result.level up.result.node up.ensures.1)

pub overflow_mul-level : goal.overflow_mul-level
overflow_mul-level c = omega (arith, c.loop-node.invariant.0, c.requires.0.led.tree.low)

pub overflow_add-level : goal.overflow_add-level
overflow_add-level c = omega (arith, c.loop-node.invariant.0, c.requires.0.led.tree.low)

pub offset_bounds-levels-level : goal.offset_bounds-levels-level
offset_bounds-levels-level c = omega (arith, c.loop-node.invariant.0, c.requires.0.led.tree.low)

pub bounds-levels-level : goal.bounds-levels-level
bounds-levels-level c =
    let tree = c.requires.0.led.tree in
    omega (arith, c.loop-node.invariant.0, tree.low, tree.room)

pub step-next-requires : goal.step-next-requires
step-next-requires c =
    let pre = c.requires in
    let tree = pre.0.led.tree in
    let loop = c.loop-node in
    (tree, omega (arith, pre.1), loop.invariant.0, omega (arith, c.loop-node-test.true, tree.counts loop.level loop.invariant.0))

pub put_led-n-requires : goal.put_led-n-requires
put_led-n-requires c =
    let start = c in
    let a = start.args in
    let s = tabled a.positions.now a.edges.now a.triangles.now a.stands.now in
    let row = start.requires.0 in
    let loop = c.loop-node in
    let stepped = c.step-next.ensures in
    let few = led_few a.which s a.kind a.i a.order.now a.from (box_meets (box_at a.own.now 2) a.boxes.now a.levels.now) a.parts in
    let there : loop.node < nodes_at a.parts loop.level = omega (arith, c.loop-node-test.true, row.led.tree.counts loop.level loop.invariant.0) in (
      omega (arith, there, fewer_nodes a.parts loop.level, row.led.order.whole),
      omega (arith, entering_place loop.invariant.1, few, row.led.few),
      λ e. led_askable row loop.node (found_there stepped e),
    )

pub loop-node-smaller : goal.loop-node-smaller
loop-node-smaller c = c.step-next.ensures.falls

pub loop-node-preserved : goal.loop-node-preserved
loop-node-preserved c =
    let a = c.args in
    let stepped = c.step-next.ensures in
    let so_far = c.loop-node.invariant.1 in
    (stepped.low, led_goes a.which (tabled a.positions.now a.edges.now a.triangles.now a.stands.now) a.kind a.i a.order.now a.from (box_meets (box_at a.own.now 2) a.boxes.now a.levels.now) a.parts so_far stepped (entered_room (entering_length so_far) c.put_led-n.ensures))

pub shape_of-places : goal.shape_of-places
shape_of-places c = entering_length c.loop-node.invariant.1

pub returns : goal.returns
returns c =
    let start = c in
    let a = start.args in
    let s = tabled a.positions.now a.edges.now a.triangles.now a.stands.now in
    let loop = c.loop-node in
    led_ends a.which s a.kind a.i a.order.now a.from (box_meets (box_at a.own.now 2) a.boxes.now a.levels.now) a.parts loop.level loop.node
    (omega (arith, c.loop-node-test.false, start.requires.0.led.tree.counts loop.level loop.invariant.0))
    loop.invariant.1

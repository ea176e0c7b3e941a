use native.Mathlib.Omega.{arith}
use Prim.Native.Nat.{◌≤◌}
use mathlib.Core.Path.{◌≡◌, refl, ◌∙◌}
use Rattle.meaning.specs.Limits.{part_limit}
use Rattle.scene_seams.specs.Alone.{tabled}
use Rattle.list_candidates.specs.Rows.{second_count}
use Rattle.mesh_entries.specs.Entering.{up_to_starts, entered_length}
use Rattle.mesh_runs.specs.Stretch.{run_entered}
use Rattle.mesh_order_rows.specs.Led.{own_there}
use Rattle.mesh_led_runs.specs.Put.{rows_short}
use Rattle.mesh_led_runs.proofs.walk_led_runs.Goals as goal

pub reach_of-reach-requires : goal.reach_of-reach-requires
reach_of-reach-requires c = let pre = c.requires.led_tree in (pre.0.tree, pre.0.few)

pub loop-i-init : goal.loop-i-init
loop-i-init c = (refl, refl, refl, c.requires.led_tree.1, up_to_starts _ _ _ _)

pub near_end-next-requires : goal.near_end-next-requires
near_end-next-requires c =
    let pre = c.requires.led_tree in
    let below = c.loop-i-test.true in
    let past = c.loop-i.invariant.4.past in
    (below, omega (arith, pre.2, pre.0.few_rows), λ i h. own_there pre.0 i (omega (arith, pre.2)))

pub walk_run-k-requires : goal.walk_run-k-requires
walk_run-k-requires c =
    let start = c in
    let a = start.args in
    let s = tabled a.positions.now a.edges.now a.triangles.now a.stands.now in
    let pre = start.requires.led_tree in
    let lent = start.requires.parts_in_bounds in
    let room = start.requires.most_in_bounds in
    let loop = c.loop-i in
    let below = c.loop-i-test.true in
    let next = c.near_end-next.ensures in
    let past = loop.invariant.4.past in
    let rows = pre.0.few_rows in
    let last = pre.2 in
    let few : second_count s a.kind ≤ part_limit = omega (arith, pre.0.all, pre.0.few) in
    let short = rows_short a.which s a.kind few a.first loop.i in record { led_tree = (pre.0, next.0, next.2, omega (arith, next.0, next.1)); parts_in_bounds = (omega (arith, lent.0, loop.invariant.0), omega (arith, lent.1, loop.invariant.1), omega (arith, lent.2, loop.invariant.2)); most_in_bounds = (omega (arith, room.0, entered_length loop.invariant.4.done), omega (arith, room.1, loop.invariant.4.done.counts)) }

pub loop-i-smaller : goal.loop-i-smaller
loop-i-smaller c = let next = c.near_end-next.ensures in omega (arith, next.0, next.1)

pub loop-i-preserved : goal.loop-i-preserved
loop-i-preserved c =
    let next = c.near_end-next.ensures in
    let loop = c.loop-i in (
      c.places-1.given ∙ loop.invariant.0,
      c.six-1.given ∙ loop.invariant.1,
      c.marks-1.given ∙ loop.invariant.2,
      next.1,
      run_entered _ (omega (arith, next.0)) loop.invariant.4 c.walk_run-k.ensures,
    )

pub shape_of-places : goal.shape_of-places
shape_of-places c = c.loop-i.invariant.0

pub shape_of-six : goal.shape_of-six
shape_of-six c = c.loop-i.invariant.1

pub shape_of-marks : goal.shape_of-marks
shape_of-marks c = c.loop-i.invariant.2

pub shape_of-list : goal.shape_of-list
shape_of-list c = entered_length c.loop-i.invariant.4.done

pub returns : goal.returns
returns c =
    let loop = c.loop-i in
    let all : loop.i ≡ c.args.end = omega (arith, c.loop-i-test.false, loop.invariant.3) in
    rw all at loop.invariant.4.done

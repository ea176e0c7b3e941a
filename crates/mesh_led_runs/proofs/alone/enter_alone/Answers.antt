use native.Mathlib.Omega.{arith}
use Prim.Native.Nat.{◌≤◌}
use mathlib.Core.Path.{◌≡◌}
use Rattle.meaning.specs.Limits.{part_limit}
use Rattle.scene_seams.specs.Alone.{tabled}
use Rattle.list_candidates.specs.Rows.{second_count}
use Rattle.mesh_entries.specs.Entering.{up_to_starts, up_to_next, entered_length}
use Rattle.mesh_rows.specs.Rows.{part_row}
use Rattle.mesh_led_runs.specs.Put.{put_fits, row_narrow, row_count_few, row_entered, rows_short}
use Rattle.mesh_led_runs.proofs.alone.enter_alone.Goals as goal

pub loop-i-init : goal.loop-i-init
loop-i-init c = up_to_starts _ _ _ _

pub enter_places-k-requires : goal.enter_places-k-requires
enter_places-k-requires c =
    let start = c in
    let a = start.args in
    let s = tabled a.positions.now a.edges.now a.triangles.now a.stands.now in
    let loop = c.loop-i in
    let below = c.loop-i-test.true in
    let put = c.order_places-count.ensures in
    let few : second_count s a.kind ≤ part_limit = omega (arith, start.requires.led_tree.0.all, start.requires.led_tree.0.few) in
    let rows = start.requires.led_tree.0.few_rows in
    let last = start.requires.led_tree.3 in
    let past = loop.invariant.past in
    let short = rows_short a.which s a.kind few a.first loop.i in
    record {
      count_in_bounds = (put_fits (part_row a.which s a.kind loop.i) put, row_count_few a.which s a.kind loop.i put few, omega arith, row_narrow a.which s a.kind loop.i put few);
      most_in_bounds = (omega (arith, start.requires.parts_in_bounds.1, entered_length loop.invariant.done), omega (arith, start.requires.parts_in_bounds.2, loop.invariant.done.counts));
    }

pub loop-i-preserved : goal.loop-i-preserved
loop-i-preserved c =
    let a = c.args in
    let s = tabled a.positions.now a.edges.now a.triangles.now a.stands.now in
    let loop = c.loop-i in
    up_to_next _ loop.invariant (row_entered a.which s a.kind loop.i c.order_places-count.ensures c.enter_places-k.ensures)

pub returns : goal.returns
returns c =
    let loop = c.loop-i in
    let all : loop.i ≡ c.args.end = omega (arith, c.loop-i-test.false, loop.auto.i-end c.requires.led_tree.1) in
    rw all at loop.invariant.done

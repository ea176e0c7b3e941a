use native.Mathlib.Omega.{arith}
use mathlib.Core.Path.{◌≡◌, refl, sym, ◌∙◌}
use Rattle.scene_seams.specs.Alone.{tabled}
use Rattle.mesh_entries.specs.Entering.{up_to_starts, up_to_next, entered_length}
use Rattle.mesh_led_runs.specs.Put.{rows_short}
use Rattle.mesh_led_runs.specs.RunRows.{row_taken}
use Rattle.mesh_led_runs.proofs.enter_near.Goals as goal

pub loop-i-init : goal.loop-i-init
loop-i-init c = record { room = refl; entered = up_to_starts _ _ _ _ }

pub enter_seconds-k-requires : goal.enter_seconds-k-requires
enter_seconds-k-requires c =
    let start = c in
    let a = start.args in
    let s = tabled a.positions.now a.edges.now a.triangles.now a.stands.now in
    let pre = start.requires.led_run in
    let spread = start.requires.parts_spread in
    let loop = c.loop-i in
    let below = c.loop-i-test.true in
    let so_far = loop.invariant.entered in
    let past = so_far.past in
    let short = rows_short a.which s a.kind pre.0.few a.first loop.i in
    record {
      taken = row_taken pre.0 loop.i past below spread.0 c.mark_met.ensures a.which c.first_second-from.ensures c.take_marked-n.ensures (omega (arith, spread.1, loop.invariant.room));
      most_in_bounds = (omega (arith, start.requires.most_in_bounds, entered_length so_far.done), omega (arith, start.requires.most_in_bounds, pre.2, so_far.done.counts));
    }

pub loop-i-preserved : goal.loop-i-preserved
loop-i-preserved c =
    let loop = c.loop-i in
    record {
      room = loop.invariant.room ∙ sym c.take_marked-n.ensures.same;
      entered = up_to_next _ loop.invariant.entered c.enter_seconds-k.ensures;
    }

pub returns : goal.returns
returns c =
    let loop = c.loop-i in
    let all : loop.i ≡ c.args.end = omega (arith, c.loop-i-test.false, loop.auto.i-end c.requires.led_run.1) in
    rw all at loop.invariant.entered.done

use native.Mathlib.Omega.{arith}
use mathlib.Core.Path.{◌≡◌}
use Rattle.mesh_led_runs.specs.RowBoxes.{standing_next}
use Rattle.mesh_led_runs.proofs.boxes.own_boxes.Goals as goal

pub loop-r-preserved : goal.loop-r-preserved
loop-r-preserved c = standing_next c.loop-r.invariant c.own_box.ensures

pub returns : goal.returns
returns c =
    let loop = c.loop-r in
    let all : loop.r ≡ c.args.count = omega (arith, c.loop-r-test.false, loop.auto.r-end) in
    rw all at loop.invariant.done

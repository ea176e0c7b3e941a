use native.Mathlib.Omega.{arith}
use mathlib.Core.Path.{◌≡◌, ap}
use lib.Dec.{leb}
use Rattle.mesh_orders.specs.Orders.{at}
use Rattle.mesh_led_runs.specs.Leading.{leading_starts, leading_next}
use Rattle.mesh_led_runs.proofs.lead_places.Goals as goal

pub loop-c-init : goal.loop-c-init
loop-c-init c = leading_starts _ _ _

pub loop-c-preserved : goal.loop-c-preserved
loop-c-preserved c =
    let a = c.args in
    let below = c.loop-c-test.true in
    leading_next (omega (arith, c.requires.0)) c.loop-c.invariant (ap (at a.order.now) c.wide-k.ensures) (ap (leb a.from) c.wide.ensures) c.one_more-n.ensures

pub returns : goal.returns
returns c =
    let loop = c.loop-c in
    let all : loop.c ≡ c.args.met = omega (arith, c.loop-c-test.false, loop.auto.c-end) in
    rw all at loop.invariant

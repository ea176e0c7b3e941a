-- `is_order`: the inverse is made, and both are looked at.
use native.Mathlib.Omega.{arith}
use mathlib.Core.Path.{◌∙◌, ap}
use lib.ListN.{length}
use Rattle.mesh_orders.specs.Orders.{places_long}
use Rattle.mesh_orders.specs.Told.{tells}
use Rattle.mesh_orders.proofs.is_order.Goals as goal

pub some_astray-out-requires : goal.some_astray-out-requires
some_astray-out-requires c =
    let a = c.args in
    (omega arith, omega (arith, ap length c.put_places.ensures ∙ places_long a.order.now a.inverse.now (length a.order.now)))

pub some_astray-home-requires : goal.some_astray-home-requires
some_astray-home-requires c =
    let a = c.args in
    (omega (arith, ap length c.put_places.ensures ∙ places_long a.order.now a.inverse.now (length a.order.now)), omega arith)

pub returns : goal.returns
returns c =
    let a = c.args in
    let made = c.put_places.ensures in
    rw made
    (tells a.order.now a.inverse.now c.requires.0 _ _ (rw made at c.some_astray-out.ensures) (rw made at c.some_astray-home.ensures))

-- `wrong_for`: by the length, then by the inverse.
use mathlib.Core.Path.{refl}
use Rattle.mesh_orders.specs.Told.{none_lent, wrong_length, by_inverse, told_long}
use Rattle.mesh_orders.proofs.wrong_for.Goals as goal

pub returns-then-order-eq0 : goal.returns-then-order-eq0
returns-then-order-eq0 c = let a = c.args in (none_lent a.count a.order.now c.if-order-eq0.true, refl)

pub returns-then-order-count : goal.returns-then-order-count
returns-then-order-count c = let a = c.args in (wrong_length a.count a.order.now c.if-order-eq0.false c.if-order-count.true, refl)

pub returns : goal.returns
returns c =
    let a = c.args in
    let told = c.is_order.ensures in
    (by_inverse {n = a.count} {l = a.order.now} c.if-order-eq0.false c.if-order-count.false told, told_long told)

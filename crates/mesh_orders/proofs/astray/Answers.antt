-- `astray`: where it leads, and back.
use Rattle.mesh_orders.specs.Orders.{leads_elsewhere, leads_out}
use Rattle.mesh_orders.proofs.astray.Goals as goal

pub returns-then-part-count : goal.returns-then-part-count
returns-then-part-count c =
    let a = c.args in
    leads_elsewhere a.there.now a.back.now a.count a.k _ _ c.wide-part.ensures c.if-part-count.true c.wide.ensures

pub returns-else-part-count : goal.returns-else-part-count
returns-else-part-count c =
    let a = c.args in
    leads_out a.there.now a.back.now a.count a.k _ c.wide-part.ensures c.if-part-count.false

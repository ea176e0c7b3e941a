-- `put_over`: what is put down is counted, or not.
use Rattle.mesh_walk.specs.PutDown.{down_stays, down_goes}
use Rattle.mesh_walk.proofs.sixteens.put_over.Goals as goal

pub returns-then-stays : goal.returns-then-stays
returns-then-stays c =
    let a = c.args in
    down_stays a.list.now a.k a.place c.store_below.ensures c.if-stays.true

pub returns-else-stays : goal.returns-else-stays
returns-else-stays c =
    let a = c.args in
    down_goes a.list.now a.k a.place c.store_below.ensures c.if-stays.false

-- `store_below`: one store, or none.
use borrow.Author.Tests.{lt-ltb, le-ltb}
use Rattle.mesh_walk.proofs.sixteens.store_below.Goals as goal

pub returns-then-k-list : goal.returns-then-k-list
returns-then-k-list c = rw (lt-ltb _ _ c.if-k-list.true)

pub returns-else-k-list : goal.returns-else-k-list
returns-else-k-list c = rw (le-ltb _ _ c.if-k-list.false)

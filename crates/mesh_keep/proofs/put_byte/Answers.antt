-- `put_byte`: one store, or none.
use borrow.Author.Tests.{lt-ltb, le-ltb}
use Rattle.mesh_keep.proofs.put_byte.Goals as goal

pub returns-then-k-most : goal.returns-then-k-most
returns-then-k-most c = rw (lt-ltb _ _ c.if-k-most.true)

pub returns-else-k-most : goal.returns-else-k-most
returns-else-k-most c = rw (le-ltb _ _ c.if-k-most.false)

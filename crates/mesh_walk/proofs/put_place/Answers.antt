-- `put_place`: one store, or none.
use native.Mathlib.Omega.{arith}
use borrow.Author.Tests.{lt-ltb, le-ltb}
use Rattle.mesh_walk.proofs.put_place.Goals as goal

pub overflow_cast-list : goal.overflow_cast-list
overflow_cast-list c = omega (arith, c.requires)

pub returns-then-k-list : goal.returns-then-k-list
returns-then-k-list c = rw (lt-ltb _ _ c.if-k-list.true)

pub returns-else-k-list : goal.returns-else-k-list
returns-else-k-list c = rw (le-ltb _ _ c.if-k-list.false)

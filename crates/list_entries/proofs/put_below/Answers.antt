-- `put_below`: one store, or none.
use borrow.Author.Rules.{rules}
use borrow.Author.Tests.{lt-ltb, le-ltb}
use Rattle.list_entries.proofs.put_below.Goals as goal

pub returns-then-k-most : goal.returns-then-k-most
returns-then-k-most c = rw (lt-ltb _ _ c.if-k-most.true, ← c.number_of.ensures)

pub returns-else-k-most : goal.returns-else-k-most
returns-else-k-most c = rw (le-ltb _ _ c.if-k-most.false)

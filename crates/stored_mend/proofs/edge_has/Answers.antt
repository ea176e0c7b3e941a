-- `edge_has`: what its calls ensure, put together.
use borrow.Author.Rules.{rules}
use native.Mathlib.Omega.{arith}
use Rattle.stored_mend.proofs.edge_has.Goals as goal

pub returns : goal.returns
returns c = rw (c.edge_end-a.ensures, c.edge_end-b.ensures)

-- `triangle_has`: what its calls ensure, put together.
use borrow.Author.Rules.{rules}
use native.Mathlib.Omega.{arith}
use Rattle.stored_mend.proofs.triangle_has.Goals as goal

pub returns : goal.returns
returns c = rw (c.corner-a.ensures, c.corner-b.ensures, c.corner-c.ensures)

-- `other_triple_box`: axis by axis.
use borrow.Author.Rules.{rules}
use native.Mathlib.Omega.{arith}
use Rattle.stored_look.proofs.other_triple_box.Goals as goal

pub returns : goal.returns
returns c = rw (c.other_triple-x.ensures, c.other_triple-y.ensures, c.other_triple-z.ensures)

use borrow.Author.Rules.{rules}
use Rattle.corner_rest.proofs.rests.Goals as goal

pub returns : goal.returns
returns c = rw (c.same-3.ensures, c.same-2.ensures, c.same.ensures)

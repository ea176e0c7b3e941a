use borrow.Author.Rules.{rules}
use Rattle.corner_rest.proofs.edges_rest.Goals as goal

pub returns : goal.returns
returns c = rw (c.rests-4.ensures, c.rests-3.ensures, c.rests-2.ensures, c.rests.ensures)

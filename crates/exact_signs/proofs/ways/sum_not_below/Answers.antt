use borrow.Author.Rules.{rules}
use Rattle.exact_signs.proofs.ways.sum_not_below.Goals as goal

pub returns-then-up : goal.returns-then-up
returns-then-up c = simp (c.if-up.true, c.at_least_zero.ensures)

pub returns-else-up : goal.returns-else-up
returns-else-up c = simp (c.if-up.false, c.at_most_zero.ensures)

-- `spans::other_triple`: the low by itself, and the high.
use borrow.Author.Rules.{rules}
use Rattle.stored_look.proofs.spans.other_triple.Goals as goal

pub returns : goal.returns
returns c = rw (c.other_lowest-low.ensures, c.other_highest-high.ensures)

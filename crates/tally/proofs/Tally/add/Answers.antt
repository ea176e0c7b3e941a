use borrow.Author.Rules.{rules}
use Rattle.tally.specs.Tallied.{tallied}
use Rattle.tally.proofs.Tally.add.Goals as goal

pub returns-in-Hit : goal.returns-in-Hit
unfolding tallied
returns-in-Hit c = simp (c.in-Hit.is, c.one_more.ensures, c.one_more-in-Hit.ensures)

pub returns-in-Miss : goal.returns-in-Miss
unfolding tallied
returns-in-Miss c = simp (c.in-Miss.is, c.one_more.ensures, c.one_more-in-Miss.ensures)

pub returns-in-Touch : goal.returns-in-Touch
unfolding tallied
returns-in-Touch c = simp (c.in-Touch.is, c.one_more.ensures, c.one_more-in-Touch.ensures)

pub returns-in-Apart : goal.returns-in-Apart
unfolding tallied
returns-in-Apart c = simp (c.in-Apart.is, c.one_more.ensures, c.one_more-in-Apart.ensures)

-- `spans::other_joint`: the low by itself, and the high.
use borrow.Author.Rules.{rules}
use Rattle.stored_look.proofs.spans.other_joint.Goals as goal

pub returns : goal.returns
returns c = rw (c.other_low-low.ensures, c.other_high-high.ensures)

use borrow.Author.Rules.{rules}
use mathlib.Core.Path.{sym, ◌∙◌}
use Rattle.stored_look.proofs.spans.other_lowest.Goals as goal

pub returns-then-at_most : goal.returns-then-at_most
returns-then-at_most c = rw (sym c.at_most.ensures ∙ c.if-at_most.true) c.other_low.ensures

pub returns-else-at_most : goal.returns-else-at_most
returns-else-at_most c = rw (sym c.at_most.ensures ∙ c.if-at_most.false) c.other_low-else-at_most.ensures

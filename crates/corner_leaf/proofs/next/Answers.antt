use borrow.Author.Rules.{rules}
use native.Mathlib.Numerals.{add-one}
use native.Mathlib.Omega.{arith}
use Rattle.corner_laws.specs.Filled.{next}
use Rattle.corner_leaf.proofs.next.Goals as goal

pub overflow_add-result : goal.overflow_add-result
unfolding next
overflow_add-result c = search rules

pub returns-then-left : goal.returns-then-left
unfolding next
returns-then-left c = (simp c.if-left.true, omega arith)

pub returns-else-left : goal.returns-else-left
unfolding next
returns-else-left c = (simp (c.if-left.false, add-one), omega arith)

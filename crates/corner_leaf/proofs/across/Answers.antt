use native.Mathlib.Omega.{arith}
use mathlib.Core.Path.{sym, ◌∙◌}
use lib.Dec.{lit<}
use Rattle.corner_leaf.proofs.across.Goals as goal

pub level-requires : goal.level-requires
level-requires c = (c.requires, lit< tt)

pub returns-then-level : goal.returns-then-level
returns-then-level c = record { few = lit< tt; level = λ l. sym c.level.ensures ∙ c.if-level.true }

pub level-requires-2 : goal.level-requires-2
level-requires-2 c = (c.requires, lit< tt)

pub returns-then-level-2 : goal.returns-then-level-2
returns-then-level-2 c = record { few = lit< tt; level = λ l. sym c.level-2.ensures ∙ c.if-level-2.true }

pub level-requires-3 : goal.level-requires-3
level-requires-3 c = (c.requires, lit< tt)

pub returns-then-level-3 : goal.returns-then-level-3
returns-then-level-3 c = record { few = lit< tt; level = λ l. sym c.level-3.ensures ∙ c.if-level-3.true }

pub returns-else-level-3 : goal.returns-else-level-3
returns-else-level-3 c = record { few = lit< tt; level = λ l. absurd (omega arith) }

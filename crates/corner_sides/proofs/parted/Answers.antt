use borrow.Author.Rules.{rules}
use native.Mathlib.Omega.{arith}
use mathlib.Core.Path.{sym, ◌∙◌}
use lib.Dec.{lit<}
use Rattle.corner_leaf.specs.Points.{placed}
use Rattle.corner_sides.specs.Parted.{parted_from_lem}
use Rattle.corner_sides.proofs.parted.Goals as goal

pub parted_from-requires : goal.parted_from-requires
parted_from-requires c = let h = c.last_of_first-last.ensures in (placed c.requires, lit< tt, omega arith)

pub returns-then-parted_from : goal.returns-then-parted_from
returns-then-parted_from c = let h = c.last_of_first-last.ensures in λ e. parted_from_lem _ c.requires.timed _ _ (lit< tt) (omega arith) _ (sym c.parted_from.ensures ∙ c.if-parted_from.true)

pub parted_from-requires-2 : goal.parted_from-requires-2
parted_from-requires-2 c = let h = c.last_of_first-last.ensures in (placed c.requires, omega arith, lit< tt)

pub returns : goal.returns
returns c = let h = c.last_of_first-last.ensures in λ e. parted_from_lem _ c.requires.timed _ _ (omega arith) (lit< tt) _ (sym c.parted_from-2.ensures ∙ e)

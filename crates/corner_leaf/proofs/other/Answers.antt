use borrow.Author.Rules.{rules}
use mathlib.Core.Path.{◌∙◌, ap}
use native.Mathlib.Nat.{le_of_lt, min-eq_left, min-eq_right, max-eq_left, max-eq_right}
use native.Mathlib.Omega.{arith}
use Rattle.corner_laws.specs.Others.{skip, skip_most}
use Rattle.corner_leaf.proofs.other.Goals as goal

pub skip-requires-then-s-e : goal.skip-requires-then-s-e
skip-requires-then-s-e c = let a = c.args in omega (arith, c.skip.ensures, skip_most a.s a.k)

pub skip-requires-else-s-e-2 : goal.skip-requires-else-s-e-2
skip-requires-else-s-e-2 c = let a = c.args in omega (arith, c.skip-else-s-e.ensures, skip_most a.e a.k)

pub returns-then-s-e : goal.returns-then-s-e
returns-then-s-e c =
    let h = le_of_lt c.if-s-e.true in
    let a = c.args in (
      rw (max-eq_right h, min-eq_left h) (c.skip-then-s-e.ensures ∙ ap (skip _) c.skip.ensures),
      omega (arith, c.skip-then-s-e.ensures, skip_most a.e c.skip.result, c.skip.ensures, skip_most a.s a.k),
    )

pub returns-else-s-e : goal.returns-else-s-e
returns-else-s-e c =
    let h = c.if-s-e.false in
    let a = c.args in (
      rw (max-eq_left h, min-eq_right h) (c.skip-else-s-e-2.ensures ∙ ap (skip _) c.skip-else-s-e.ensures),
      omega (arith, c.skip-else-s-e-2.ensures, skip_most a.s c.skip-else-s-e.result, c.skip-else-s-e.ensures, skip_most a.e a.k),
    )

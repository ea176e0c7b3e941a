-- `part_at`: the order's, or the place itself.
use borrow.Author.Rules.{rules}
use native.Mathlib.Omega.{arith}
use mathlib.Core.Path.{sym, ◌∙◌}
use Rattle.mesh_boxes.specs.Led.{part_itself, part_led}
use Rattle.mesh_boxes.proofs.part_at.Goals as goal

pub returns-then-order-eq0 : goal.returns-then-order-eq0
returns-then-order-eq0 c = let a = c.args in sym (part_itself a.order.now a.k c.if-order-eq0.true)

pub offset_bounds-order-k : goal.offset_bounds-order-k
offset_bounds-order-k c = let inside = c.requires c.if-order-eq0.false in search rules

pub bounds-order-k : goal.bounds-order-k
bounds-order-k c = omega (arith, c.requires c.if-order-eq0.false)

pub returns : goal.returns
returns c = let a = c.args in c.wide.ensures ∙ sym (part_led a.order.now a.k c.if-order-eq0.false)

use Rattle.std.proofs.Common.{cond, refl, sym, ap, ◌∙◌, arith}
use Rattle.corner_leaf.specs.First.{first_here, first_next, first_none}
use Rattle.corner_leaf.specs.Answer.{base_in}
use Rattle.corner_leaf.proofs.base.Goals as goal

pub loop-i-init : goal.loop-i-init
unfolding base_in
loop-i-init c = refl

pub returns-then-stands : goal.returns-then-stands
returns-then-stands c =
    let l = c.loop-i in
    sym (first_here _ l.i 6 _ c.loop-i-test.true (sym c.stands.ensures ∙ c.if-stands.true)) ∙ l.invariant

pub loop-i-preserved : goal.loop-i-preserved
loop-i-preserved c =
    let l = c.loop-i in
    sym (first_next _ l.i 6 _ c.loop-i-test.true (sym c.stands.ensures ∙ c.if-stands.false)) ∙ l.invariant

pub returns-then-end : goal.returns-then-end
returns-then-end c =
    let l = c.loop-i in
    ap (λ b. cond b 5 0) (sym c.if-end.true) ∙ sym (first_none _ l.i 6 _ (omega arith)) ∙ l.invariant

pub returns-else-end : goal.returns-else-end
returns-else-end c =
    let l = c.loop-i in
    ap (λ b. cond b 5 0) (sym c.if-end.false) ∙ sym (first_none _ l.i 6 _ (omega arith)) ∙ l.invariant

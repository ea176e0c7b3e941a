use Rattle.corner_leaf.proofs.stands.Goals as goal

pub returns-then-at_end : goal.returns-then-at_end
returns-then-at_end c = simp c.if-at_end.true

pub returns-else-at_end : goal.returns-else-at_end
returns-else-at_end c = simp c.if-at_end.false

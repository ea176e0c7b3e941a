use borrow.Author.Rules.{rules}
use Rattle.whole.specs.Cramer.{each}
use Rattle.corner_leaf.specs.Points.{is_left}
use Rattle.corner_leaf.specs.Answer.{one_turn}
use Rattle.corner_leaf.proofs.one_turn.Goals as goal

pub returns : goal.returns
returns c =
    let a = c.args in
    λ i. one_turn (each (is_left a.left.now) (record { v0 = c.other.ensures.0 i; v1 = c.other-2.ensures.0 i; v2 = c.other-3.ensures.0 i; v3 = c.other-4.ensures.0 i })) a.plane

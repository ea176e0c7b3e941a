use borrow.Author.Rules.{rules}
use Rattle.exact.specs.Minors.{minors_small, standing_first, standing_last}
use Rattle.exact.specs.Volumes.{held_small, held_in_turn}
use Rattle.exact.proofs.arrows.arrow_volumes.Goals as goal

pub arrow_with-e2-requires : goal.arrow_with-e2-requires
arrow_with-e2-requires c = (c.requires.3, minors_small c.arrow_minors-former.ensures)

pub arrow_with-e3-requires : goal.arrow_with-e3-requires
arrow_with-e3-requires c = (c.requires.2, minors_small c.arrow_minors-former.ensures)

pub arrow_with-e0-requires : goal.arrow_with-e0-requires
arrow_with-e0-requires c = (c.requires.1, minors_small c.arrow_minors-latter.ensures)

pub arrow_with-e1-requires : goal.arrow_with-e1-requires
arrow_with-e1-requires c = (c.requires.0, minors_small c.arrow_minors-latter.ensures)

pub in_turn-requires : goal.in_turn-requires
in_turn-requires c =
    held_small (standing_first c.arrow_with-e0.ensures c.arrow_minors-latter.ensures)
    (standing_first c.arrow_with-e1.ensures c.arrow_minors-latter.ensures)
    (standing_last c.arrow_with-e2.ensures c.arrow_minors-former.ensures)
    (standing_last c.arrow_with-e3.ensures c.arrow_minors-former.ensures)

pub returns : goal.returns
returns c =
    held_in_turn (standing_first c.arrow_with-e0.ensures c.arrow_minors-latter.ensures)
    (standing_first c.arrow_with-e1.ensures c.arrow_minors-latter.ensures)
    (standing_last c.arrow_with-e2.ensures c.arrow_minors-former.ensures)
    (standing_last c.arrow_with-e3.ensures c.arrow_minors-former.ensures)
    c.in_turn.ensures

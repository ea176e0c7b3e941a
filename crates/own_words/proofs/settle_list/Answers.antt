-- `settle_list`: a list that is too long is refused; the table is its own, and without entries where there are no seams.
use borrow.Author.Rules.{rules}
use Rattle.scene_seams.specs.Sewing.{blank_table}
use Rattle.own_words.specs.Answering.{own_long}
use Rattle.own_words.proofs.settle_list.Goals as goal

pub returns-then-list-gt-OWN_LIMIT : goal.returns-then-list-gt-OWN_LIMIT
returns-then-list-gt-OWN_LIMIT c = rw c.from.ensures (own_long _ _ _ c.if-list-gt-OWN_LIMIT.true)

pub settle_into-requires : goal.settle_into-requires
settle_into-requires c = (search rules, c.if-list-gt-OWN_LIMIT.false)

pub settle_into-requires-2 : goal.settle_into-requires-2
settle_into-requires-2 c = (blank_table _, c.if-list-gt-OWN_LIMIT.false)

-- `contact_list`: a list that is too long is refused; the table is its own, and without entries where there are no seams.
use borrow.Author.Rules.{rules}
use Rattle.scene_seams.specs.Sewing.{blank_table}
use Rattle.own_contacts.specs.Answering.{own_met_long}
use Rattle.own_contacts.proofs.contact_list.Goals as goal

pub returns-then-list-gt-OWN_LIMIT : goal.returns-then-list-gt-OWN_LIMIT
returns-then-list-gt-OWN_LIMIT c = rw c.from.ensures (own_met_long _ _ _ _ c.if-list-gt-OWN_LIMIT.true)

pub contact_into-requires : goal.contact_into-requires
contact_into-requires c = (search rules, c.if-list-gt-OWN_LIMIT.false)

pub contact_into-requires-2 : goal.contact_into-requires-2
contact_into-requires-2 c = (blank_table _, c.if-list-gt-OWN_LIMIT.false)

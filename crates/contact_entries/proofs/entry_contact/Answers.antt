-- The entry is taken apart, and its pair is met.
use lib.ListN.{get_or}
use Rattle.meaning.specs.List.{pair}
use Rattle.list_words.specs.Listed.{entry_there}
use Rattle.contact_entries.specs.Listed.{entry_met}
use Rattle.contact_entries.proofs.entry_contact.Goals as goal

pub contact-requires : goal.contact-requires
contact-requires c =
    let start = c in
    let p = start.requires in
    (p.0, entry_there _ (get_or start.args.list.now start.args.k 0) (pair c.kind_of-kind.result c.first_of-first.result c.second_of-second.result) c.kind_of-kind.ensures c.first_of-first.ensures c.second_of-second.ensures p.2)

pub returns : goal.returns
returns c =
    let start = c in
    entry_met _ (get_or start.args.list.now start.args.k 0) (pair c.kind_of-kind.result c.first_of-first.result c.second_of-second.result) c.kind_of-kind.ensures c.first_of-first.ensures c.second_of-second.ensures c.contact.result c.contact.ensures

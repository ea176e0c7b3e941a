-- The entry is taken apart, and its pair is met.
use Rattle.meaning.specs.List.{pair}
use Rattle.mesh_words.specs.Asked.{mesh_pair_at, entry_there}
use Rattle.mesh_contacts.specs.Met.{entry_met, entry_settled}
use Rattle.mesh_contacts.proofs.entry_contact.Goals as goal

pub contact_of_word-requires : goal.contact_of_word-requires
contact_of_word-requires c =
    let start = c in
    let p = start.requires in
    let q = mesh_pair_at start.args.list.now start.args.k in
    let r = pair c.kind_of-kind.result c.first_of-first.result c.second_of-second.result in (
      p.0,
      entry_there _ q r c.kind_of-kind.ensures c.first_of-first.ensures c.second_of-second.ensures p.2,
      entry_settled _ q r c.kind_of-kind.ensures c.first_of-first.ensures c.second_of-second.ensures start.args.word p.3,
    )

pub returns : goal.returns
returns c =
    let start = c in
    entry_met _ (mesh_pair_at start.args.list.now start.args.k) (pair c.kind_of-kind.result c.first_of-first.result c.second_of-second.result) c.kind_of-kind.ensures c.first_of-first.ensures c.second_of-second.ensures c.contact_of_word.result c.contact_of_word.ensures

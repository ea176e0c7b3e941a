use Rattle.contact_pair.specs.Ready.{old_accepted}
use Rattle.contact_pair.proofs.accepted.contact.Goals as goal

pub pair-word-requires : goal.pair-word-requires
pair-word-requires c = let p = c.requires in (old_accepted p.0, p.1)

pub contact_of_word-requires : goal.contact_of_word-requires
contact_of_word-requires c = let p = c.requires in (p.0, p.1, c.pair-word.ensures)

pub returns : goal.returns
returns c = c.contact_of_word.ensures

-- The words are written, and then the rows of the hits by these words.
use Rattle.contact_pair.specs.Ready.{old_sound}
use Rattle.mesh_contacts.specs.Met.{written_words, written_room}
use Rattle.mesh_contacts.proofs.contact_mesh_entries.Goals as goal

pub settle_mesh_entries-requires : goal.settle_mesh_entries-requires
settle_mesh_entries-requires c =
    let p = c.requires in
    (old_sound p.0, p.1, p.2, p.3)

pub contact_hits-requires : goal.contact_hits-requires
contact_hits-requires c =
    let a = c.args in
    let p = c.requires in
    let wrote = c.settle_mesh_entries.ensures in
    (p.0, p.1, p.2, written_room a.count a.list.now p.1 _ _ _ wrote p.3, written_words a.count a.list.now p.1 _ _ _ wrote, p.4)

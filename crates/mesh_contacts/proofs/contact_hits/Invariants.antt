-- Each entry in turn: its row is the next of the rows, by the word that its byte stands for.
use Rattle.scene_seams.specs.Alone.{tabled}
use Rattle.contact_entries.specs.Rows.{RowsGoing}
use Rattle.contact_entries.specs.Listed.{contacts_of}
use Rattle.mesh_words.specs.Asked.{mesh_pairs_in}
use Rattle.mesh_contacts.proofs.contact_hits.Given as goal

abbrev pub invariant-loop-k : goal.invariant-loop-k
invariant-loop-k l = RowsGoing (contacts_of (tabled l.positions l.edges l.triangles l.stands) (mesh_pairs_in l.count l.list)) l.initial.contacts l.contacts l.k

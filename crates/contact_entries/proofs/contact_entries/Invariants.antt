-- Each entry in turn: its byte is the next of the words, and its row the next of the rows.
use lib.ListN.{drop}
use Rattle.sequences.specs.Writing.{Writing}
use Rattle.scene_seams.specs.Alone.{tabled}
use Rattle.contact_entries.specs.Rows.{RowsGoing}
use Rattle.list_words.specs.Listed.{pairs_in}
use Rattle.contact_entries.specs.Listed.{contacts_of, contact_bytes}
use Rattle.contact_entries.proofs.contact_entries.Given as goal

abbrev pub invariant-loop-k : goal.invariant-loop-k
invariant-loop-k l =
    Writing l.initial.words (contact_bytes (tabled l.positions l.edges l.triangles l.stands) (pairs_in l.count l.list)) l.words l.k (drop l.k (contact_bytes (tabled l.positions l.edges l.triangles l.stands) (pairs_in l.count l.list)))
    × RowsGoing (contacts_of (tabled l.positions l.edges l.triangles l.stands) (pairs_in l.count l.list)) l.initial.contacts l.contacts l.k

use Prim.Native.Nat.{◌+◌, ◌<◌}
use native.Mathlib.Omega.{arith}
use mathlib.Core.Path.{◌≡◌, sym, ap, ◌∙◌}
use mathlib.Core.List.{◌∷◌}
use lib.ListN.{drop, drop_of_length-le}
use Rattle.sequences.specs.Writing.{writing_starts_front, writing_as, writing_room, writing_step, writing_ends_front}
use Rattle.meaning.specs.Scene.{Scene}
use Rattle.scene_seams.specs.Alone.{tabled}
use Rattle.meaning.specs.SceneWords.{byte_of}
use Rattle.meaning.specs.WholeContacts.{word_of}
use Rattle.meaning.specs.declared.WholeContact.{WholeContact}
use Rattle.contact_entries.specs.Rows.{rows_start, rows_step, rows_end}
use Rattle.list_entries.specs.Entries.{pair_at}
use Rattle.list_words.specs.Listed.{pairs_in}
use Rattle.contact_entries.specs.Listed.{whole_contact_of_pair, contacts_of, contact_byte, contact_bytes, pair_small, contacts_in_length, met_bytes_in_length, contacts_left, met_bytes_left}
use Rattle.contact_entries.proofs.contact_entries.Goals as goal

pub loop-k-init : goal.loop-k-init
loop-k-init c =
    let start = c in
    let s : Scene = (tabled start.args.positions.now start.args.edges.now start.args.triangles.now start.args.stands.now) in
    (writing_starts_front _ _ (rw (met_bytes_in_length start.args.count start.args.list.now start.requires.1 s) start.requires.3), rows_start _ _)

pub entry_contact-contact-requires : goal.entry_contact-contact-requires
entry_contact-contact-requires c =
    let p = c.requires in
    (p.0, omega (arith, p.1, c.loop-k-test.true), p.2 c.loop-k.k c.loop-k-test.true)

pub bounds-words-k : goal.bounds-words-k
bounds-words-k c =
    let start = c in
    let s : Scene = (tabled start.args.positions.now start.args.edges.now start.args.triangles.now start.args.stands.now) in
    let k = c.loop-k.k in
    let inv = c.loop-k.invariant in
    writing_room (writing_as (met_bytes_left start.args.count start.args.list.now start.requires.1 s k c.loop-k-test.true) inv.0)

pub put_contact_row-requires : goal.put_contact_row-requires
put_contact_row-requires c =
    let start = c in
    let inv = c.loop-k.invariant in
    (omega (arith, start.requires.4, c.loop-k-test.true, inv.1.same), rw c.entry_contact-contact.ensures (pair_small _ _))

pub loop-k-preserved : goal.loop-k-preserved
loop-k-preserved c =
    let start = c in
    let s : Scene = (tabled start.args.positions.now start.args.edges.now start.args.triangles.now start.args.stands.now) in
    let n = start.args.count in
    let l = start.args.list.now in
    let k = c.loop-k.k in
    let inv = c.loop-k.invariant in
    let below : k < n = c.loop-k-test.true in
    let met = c.entry_contact-contact.ensures in
    let byte : c.byte_of.result ≡ contact_byte (whole_contact_of_pair s (pair_at l k)) =
    c.byte_of.ensures ∙ ap byte_of (c.settled_of.ensures ∙ ap word_of met) in
    let next : drop k (contacts_of s (pairs_in n l)) ≡ c.entry_contact-contact.result ∷ drop (k + 1) (contacts_of s (pairs_in n l)) =
    contacts_left n l start.requires.1 s k below ∙ ap (λ (m : WholeContact). m ∷ drop (k + 1) (contacts_of s (pairs_in n l))) (sym met) in
    (rw byte (writing_step (writing_as (met_bytes_left n l start.requires.1 s k below) inv.0)), rows_step (contacts_of s (pairs_in n l)) _ next inv.1 c.put_contact_row.ensures)

pub returns : goal.returns
returns c =
    let start = c in
    let s : Scene = (tabled start.args.positions.now start.args.edges.now start.args.triangles.now start.args.stands.now) in
    let n = start.args.count in
    let l = start.args.list.now in
    let inv = c.loop-k.invariant in (
      writing_ends_front (writing_as (drop_of_length-le (contact_bytes s (pairs_in n l)) {i = c.loop-k.k} (rw (met_bytes_in_length n l start.requires.1 s) (omega (arith, c.loop-k-test.false)))) inv.0),
      rows_end (contacts_of s (pairs_in n l)) (drop_of_length-le (contacts_of s (pairs_in n l)) {i = c.loop-k.k} (rw (contacts_in_length n l start.requires.1 s) (omega (arith, c.loop-k-test.false)))) inv.1,
    )

pub shape_of-words : goal.shape_of-words
shape_of-words c = c.loop-k.invariant.0.same

pub shape_of-contacts : goal.shape_of-contacts
shape_of-contacts c = c.loop-k.invariant.1.same

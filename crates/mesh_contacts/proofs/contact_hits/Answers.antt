use Prim.Native.Nat.{◌+◌, ◌<◌}
use native.Mathlib.Omega.{arith}
use mathlib.Core.Path.{◌≡◌, sym, ap, ◌∙◌}
use mathlib.Core.List.{◌∷◌}
use lib.ListN.{drop, drop_of_length-le}
use Rattle.meaning.specs.Scene.{Scene}
use Rattle.meaning.specs.declared.WholeContact.{WholeContact}
use Rattle.scene_seams.specs.Alone.{tabled}
use Rattle.contact_entries.specs.Rows.{rows_start, rows_step, rows_end}
use Rattle.contact_entries.specs.Listed.{contacts_of, pair_small}
use Rattle.mesh_words.specs.Asked.{mesh_pairs_in}
use Rattle.mesh_contacts.specs.Met.{contacts_in_length, contacts_left, known_word}
use Rattle.mesh_contacts.proofs.contact_hits.Goals as goal

pub entry_contact-contact-requires : goal.entry_contact-contact-requires
entry_contact-contact-requires c =
    let a = c.args in
    let p = c.requires in
    let k = c.loop-k.k in
    let below : k < a.count = c.loop-k-test.true in
    (p.0, omega (arith, p.1, below), p.2 k below, c.word_in-word.ensures ∙ known_word a.count a.list.now p.1 _ a.words.now p.4 k below)

pub put_contact_row-requires : goal.put_contact_row-requires
put_contact_row-requires c =
    let p = c.requires in
    (omega (arith, p.5, c.loop-k-test.true, c.loop-k.invariant.same), rw c.entry_contact-contact.ensures (pair_small _ _))

pub loop-k-preserved : goal.loop-k-preserved
loop-k-preserved c =
    let start = c in
    let s : Scene = tabled start.args.positions.now start.args.edges.now start.args.triangles.now start.args.stands.now in
    let n = start.args.count in
    let l = start.args.list.now in
    let loop = c.loop-k in
    let below : loop.k < n = c.loop-k-test.true in
    let met = c.entry_contact-contact in
    let next : drop loop.k (contacts_of s (mesh_pairs_in n l)) ≡ met.result ∷ drop (loop.k + 1) (contacts_of s (mesh_pairs_in n l)) =
    contacts_left n l start.requires.1 s loop.k below ∙ ap (λ (m : WholeContact). m ∷ drop (loop.k + 1) (contacts_of s (mesh_pairs_in n l))) (sym met.ensures) in
    rows_step (contacts_of s (mesh_pairs_in n l)) _ next loop.invariant c.put_contact_row.ensures

pub returns : goal.returns
returns c =
    let start = c in
    let s : Scene = tabled start.args.positions.now start.args.edges.now start.args.triangles.now start.args.stands.now in
    let ms = contacts_of s (mesh_pairs_in start.args.count start.args.list.now) in
    let long = contacts_in_length start.args.count start.args.list.now start.requires.1 s in
    rows_end ms (drop_of_length-le ms {i = c.loop-k.k} (rw long (omega (arith, c.loop-k-test.false)))) c.loop-k.invariant

pub loop-k-init : goal.loop-k-init
loop-k-init c = rows_start _ _

pub shape_of-contacts : goal.shape_of-contacts
shape_of-contacts c = c.loop-k.invariant.same

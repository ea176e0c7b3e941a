use Prim.Native.Nat.{◌≤◌, ◌<◌}
use mathlib.Core.Path.{◌∙◌}
use native.Mathlib.Omega.{arith}
use lib.ListN.{length}
use Rattle.sequences.specs.Writing.{writing_starts_front, writing_as, writing_steps}
use Rattle.meaning.specs.Scene.{Scene}
use Rattle.meaning.specs.List.{pairs}
use Rattle.scene_seams.specs.Alone.{tabled}
use Rattle.list_words.specs.Listed.{listed_all_there}
use Rattle.contact_entries.specs.Listed.{listed_whole_contact}
use Rattle.hit_report.specs.Lines.{one_hit_lem, lines_fit, lines_told, entry_next, hits_next, hits_end, listed_line_short}
use Rattle.hit_report.proofs.hit_lines.Goals as goal

pub loop-k-init : goal.loop-k-init
loop-k-init c =
    let start = c in
    let s : Scene = tabled start.args.positions.now start.args.edges.now start.args.triangles.now start.args.stands.now in
    (omega arith, omega arith, writing_starts_front _ _ (omega (arith, start.requires.2, start.requires.3, start.requires.4, lines_fit s start.args.list.now start.requires.1)), omega arith)

pub entry_contact-contact-requires : goal.entry_contact-contact-requires
entry_contact-contact-requires c =
    let p = c.requires in
    (p.0, omega (arith, p.1.room, p.2, c.loop-k-test.true), listed_all_there p.1 c.loop-k.k (omega (arith, p.2, c.loop-k-test.true)))

pub bounds-list-k : goal.bounds-list-k
bounds-list-k c =
    let p = c.requires in
    omega (arith, p.1.room, p.2, c.loop-k-test.true)

pub tell_pair-lines-requires : goal.tell_pair-lines-requires
tell_pair-lines-requires c =
    let p = c.requires in
    let i = c.loop-k.invariant in
    (omega (arith, i.0, i.2.same, p.3, p.4, c.loop-k-test.true), omega (arith, i.1, p.3, c.loop-k-test.true))

pub loop-k-preserved : goal.loop-k-preserved
loop-k-preserved c =
    let start = c in
    let s : Scene = tabled start.args.positions.now start.args.edges.now start.args.triangles.now start.args.stands.now in
    let k = c.loop-k.k in
    let i = c.loop-k.invariant in
    let below : k < length (pairs s) = omega (arith, start.requires.2, c.loop-k-test.true) in
    let m = c.entry_contact-contact.ensures ∙ listed_whole_contact start.requires.1 k below in
    let told = c.tell_pair-lines.ensures in
    let line = entry_next s start.args.list.now start.requires.1 k below c.entry_contact-contact.result m in
    let short = listed_line_short s start.args.list.now start.requires.1 k below in (
      omega (arith, told.0.place, i.0, rw (← m) at short),
      omega (arith, told.1, i.1, one_hit_lem c.entry_contact-contact.result),
      writing_steps (writing_as line i.2) told.0,
      omega (arith, told.1, i.3, rw (← m) at (hits_next s k below)),
    )

pub shape_of-out : goal.shape_of-out
shape_of-out c = c.loop-k.invariant.2.same

pub returns : goal.returns
returns c =
    let start = c in
    let s : Scene = tabled start.args.positions.now start.args.edges.now start.args.triangles.now start.args.stands.now in
    let k = c.loop-k.k in
    let i = c.loop-k.invariant in
    let past : length (pairs s) ≤ k = omega (arith, start.requires.2, c.loop-k-test.false) in (
      lines_told s k past i.2,
      omega (arith, i.0, start.requires.3),
      omega (arith, i.3, hits_end s k past),
    )

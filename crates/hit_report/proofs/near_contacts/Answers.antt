use native.Mathlib.Omega.{arith}
use Rattle.meaning.specs.Scene.{Scene}
use Rattle.scene_seams.specs.Alone.{tabled}
use Rattle.list_words.specs.Answering.{made_list, made_stands}
use Rattle.contact_pair.specs.Ready.{old_accepted}
use Rattle.hit_report.specs.Told.{own_room, no_room_lem, room_refused, contacts_stand}
use Rattle.hit_report.proofs.near_contacts.Goals as goal

pub list_accepted-requires : goal.list_accepted-requires
list_accepted-requires c = (old_accepted c.requires.0, omega (arith, own_room))

pub hits_report-requires : goal.hits_report-requires
hits_report-requires c =
    let start = c in
    let s : Scene = tabled start.args.positions.now start.args.edges.now start.args.triangles.now start.args.stands.now in
    let p = start.requires in
    let m = made_list {s = s} c.list_accepted.ensures.list {m = c.in-Ok.count} (search) in
    (p.0, made_stands {s = s} (old_accepted p.0) (omega (arith, own_room)) m, m.counts, omega (arith, m.counts, m.fits), p.1)

pub returns-in-Ok : goal.returns-in-Ok
returns-in-Ok c =
    let start = c in
    let s : Scene = tabled start.args.positions.now start.args.edges.now start.args.triangles.now start.args.stands.now in
    let m = made_list {s = s} c.list_accepted.ensures.list {m = c.in-Ok.count} (search) in
    contacts_stand s start.requires.0.in_range m.fits c.hits_report.ensures

pub returns-in-Err : goal.returns-in-Err
returns-in-Err c =
    let start = c in
    let s : Scene = tabled start.args.positions.now start.args.edges.now start.args.triangles.now start.args.stands.now in
    let n = no_room_lem {s = s} c.list_accepted.ensures.list c.in-Err.is in
    room_refused s start.requires.0.in_range n.0 n.1 c.refused_line.ensures

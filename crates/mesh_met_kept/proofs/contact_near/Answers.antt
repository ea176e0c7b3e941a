-- `contact_near`: the pairs that are kept stand there with their words, and each hit among them is met.
use native.Mathlib.Omega.{arith}
use Rattle.std.proofs.lemmas.Result.{err_from_is_err_and}
use Rattle.scene_seams.specs.Alone.{tabled}
use Rattle.contact_pair.specs.Ready.{old_sound}
use Rattle.mesh_settled.specs.Settling.{plant_sized}
use Rattle.mesh_met_kept.specs.Meeting.{kept_made, made_room, bytes_room, made_there, made_words, near_made, near_without}
use Rattle.mesh_met_kept.proofs.contact_near.Goals as goal

pub keep_there-requires : goal.keep_there-requires
keep_there-requires c =
    let start = c in
    let room = c.room_for-room.ensures in record { plantable = start.requires.plantable; orders_lent = start.requires.orders_lent; sound = (old_sound start.requires.sound_within, omega (arith, room), omega (arith, room)) }

pub contact_hits-requires : goal.contact_hits-requires
contact_hits-requires c =
    let start = c in
    let a = start.args in
    let s = tabled a.positions.now a.edges.now a.triangles.now a.stands.now in
    let room = c.room_for-room.ensures in
    let few = plant_sized start.requires.plantable.0 in
    let within = start.requires.plantable.2 in
    let made = kept_made a.which a.wanted s a.first a.end c.keep_there.ensures c.in_ok-kept.was in (
      start.requires.sound_within,
      made_room a.which a.wanted s a.first a.end few within (rw room (omega arith)) (rw room (omega arith)) made,
      made_there a.which a.wanted s a.first a.end few within (rw room (omega arith)) (rw room (omega arith)) made,
      bytes_room a.which a.wanted s a.first a.end few within (rw room (omega arith)) (rw room (omega arith)) made,
      made_words a.which a.wanted s a.first a.end few within (rw room (omega arith)) (rw room (omega arith)) made,
      omega (arith, made.fits, room),
    )

pub returns : goal.returns
returns c =
    let start = c in
    let a = start.args in
    let s = tabled a.positions.now a.edges.now a.triangles.now a.stands.now in
    let room = c.room_for-room.ensures in
    rw room at
    (near_made a.which a.wanted s a.first a.end c.keep_there.ensures (plant_sized start.requires.plantable.0) start.requires.plantable.2 (rw room (omega arith)) (rw room (omega arith)) c.in_ok-kept.was c.contact_hits.ensures)

pub returns-in_err-kept : goal.returns-in_err-kept
returns-in_err-kept c =
    let a = c.args in
    let s = tabled a.positions.now a.edges.now a.triangles.now a.stands.now in
    let (y, is, same) = err_from_is_err_and c.from_residual.result c.from_residual.ensures.1 in
    rw (is, same) (rw c.room_for-room.ensures at (near_without a.which a.wanted s a.first a.end c.keep_there.ensures {c = a.contacts.now} c.in_err-kept.was))

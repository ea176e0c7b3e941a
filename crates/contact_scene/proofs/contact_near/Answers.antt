-- The list is made, and each of its entries is met.
use native.Mathlib.Omega.{arith}
use Rattle.std.proofs.lemmas.Result.{err_from_is_err_and}
use Rattle.list_words.specs.Answering.{made_list, made_within, made_there}
use Rattle.contact_pair.specs.Ready.{old_accepted}
use Rattle.contact_scene.specs.Answering.{met_listed, met_without_room}
use Rattle.contact_scene.proofs.contact_near.Goals as goal

pub list_accepted-requires : goal.list_accepted-requires
list_accepted-requires c = (old_accepted c.requires, omega (arith, c.room_for-room.ensures))

pub contact_entries-requires : goal.contact_entries-requires
contact_entries-requires c =
    let start = c in
    let room = c.room_for-room.ensures in
    let l = c.list_accepted.ensures.list in
    let m = made_list l c.in_ok-count.was in (
      start.requires,
      made_within (old_accepted start.requires) (rw room (omega arith)) l c.in_ok-count.was,
      made_there (old_accepted start.requires) (rw room (omega arith)) l c.in_ok-count.was,
      omega (arith, m.counts, m.fits, room),
      omega (arith, m.counts, m.fits, room),
    )

pub returns : goal.returns
returns c =
    let start = c in
    let room = c.room_for-room.ensures in
    rw room at
    (met_listed (old_accepted start.requires) (rw room (omega arith)) c.list_accepted.ensures.list c.in_ok-count.was c.contact_entries.ensures.0 c.contact_entries.ensures.1)

pub returns-in_err-count : goal.returns-in_err-count
returns-in_err-count c =
    let a = c.args in
    let (y, is, same) = err_from_is_err_and c.from_residual.result c.from_residual.ensures.1 in
    rw (is, same) (rw c.room_for-room.ensures at (met_without_room c.list_accepted.ensures.list {b = a.words.now} {c = a.contacts.now} c.in_err-count.was))

-- `contact_near`: the stretch is listed, and each of its entries is met.
use native.Mathlib.Omega.{arith}
use Rattle.std.proofs.lemmas.Result.{err_from_is_err_and}
use Rattle.mesh_settled.specs.Settling.{rows_made, plant_sized, made_room, made_there}
use Rattle.mesh_met.specs.Meeting.{met_made, met_without}
use Rattle.mesh_met.proofs.contact_near.Goals as goal

pub list_stretch-requires : goal.list_stretch-requires
list_stretch-requires c = record { plantable = c.requires.plantable; orders_lent = c.requires.orders_lent; room_in_bounds = omega (arith, c.room_for-room.ensures) }

pub contact_mesh_entries-requires : goal.contact_mesh_entries-requires
contact_mesh_entries-requires c =
    let room = c.room_for-room.ensures in
    let few = plant_sized c.requires.plantable.0 in
    let made = rows_made c.list_stretch.ensures c.in_ok-count.was in (
      c.requires.sound_within,
      made_room few c.requires.plantable.2 (rw room (omega arith)) made,
      made_there few c.requires.plantable.2 (rw room (omega arith)) made,
      omega (arith, made.counts, made.fits, room),
      omega (arith, made.counts, made.fits, room),
    )

pub returns : goal.returns
returns c =
    let room = c.room_for-room.ensures in
    rw room at
    (met_made c.list_stretch.ensures (plant_sized c.requires.plantable.0) c.requires.plantable.2 (rw room (omega arith)) c.in_ok-count.was c.contact_mesh_entries.ensures.0
    c.contact_mesh_entries.ensures.1)

pub returns-in_err-count : goal.returns-in_err-count
returns-in_err-count c =
    let a = c.args in
    let (y, is, same) = err_from_is_err_and c.from_residual.result c.from_residual.ensures.1 in
    rw (is, same) (rw c.room_for-room.ensures at (met_without c.list_stretch.ensures {v = a.words.now} {c = a.contacts.now} c.in_err-count.was))

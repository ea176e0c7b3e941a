-- `settle_prepared`: the list is made, and each of its entries judged.
use native.Mathlib.Omega.{arith}
use Rattle.std.proofs.lemmas.Result.{err_from_is_err_and}
use Rattle.list_words.specs.Answering.{made_list, made_within, made_there, judged_listed, judged_without_room}
use Rattle.list_words.proofs.settle_prepared.Goals as goal

pub settle_entries-requires : goal.settle_entries-requires
settle_entries-requires c =
    let start = c in
    let room = c.min-room.ensures in
    let free = c.room.ensures in
    let l = c.list_prepared.ensures.list in
    let made = c.in_ok-count.was in
    let m = made_list l made in (
      start.requires.accepted,
      made_within start.requires.accepted (rw (room, free) (omega arith)) l made,
      made_there start.requires.accepted (rw (room, free) (omega arith)) l made,
      omega (arith, m.counts, m.fits, room),
    )

pub returns-in_err-count : goal.returns-in_err-count
returns-in_err-count c =
    let l = c.list_prepared.ensures.list in
    let (y, is, same) = err_from_is_err_and c.from_residual.result c.from_residual.ensures.1 in
    rw (is, same) (rw (c.min-room.ensures, c.room.ensures) at (judged_without_room l {b = c.args.out.now} c.in_err-count.was))

pub returns : goal.returns
returns c =
    let start = c in
    let room = c.min-room.ensures in
    let free = c.room.ensures in
    let l = c.list_prepared.ensures.list in
    rw (room, free) at (judged_listed start.requires.accepted (rw (room, free) (omega arith)) l c.in_ok-count.was c.settle_entries.ensures)

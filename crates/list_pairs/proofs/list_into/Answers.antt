-- `list_into`: a refusal of the check is passed on, and an accepted scene's list is made, by the table of its seams.
use Rattle.std.proofs.lemmas.Result.{err_from_is_err_and}
use native.Mathlib.Omega.{arith}
use Rattle.meaning.specs.Scene.{scene_of, Accepted}
use Rattle.scene_checks.specs.Checking.{one_scene, to_table}
use Rattle.list_pairs.specs.Answering.{accepted_from, listing_refused, listing_accepted, tested_refused, tested_as}
use Rattle.list_pairs.proofs.list_into.Goals as goal

pub list_accepted-requires : goal.list_accepted-requires
list_accepted-requires c =
    let called = c.check_into in
    let accepted = accepted_from _ called.ensures.checked c.in_ok-check_into.was in
    (to_table Accepted called.ensures.into accepted accepted, omega (arith, c.room-most.ensures))

pub returns-in_err-check_into : goal.returns-in_err-check_into
returns-in_err-check_into c =
    let a = c.args in
    let s = scene_of a.positions.now a.edges.now a.triangles.now a.seams.now in
    let called = c.check_into in
    let (y, is, same) = err_from_is_err_and c.from_residual.result c.from_residual.ensures.1 in
    (rw (is, same) (tested_refused s (listing_refused s called.ensures.checked _ _ c.in_err-check_into.was)), called.ensures.into)

pub returns : goal.returns
returns c =
    let a = c.args in
    let s = scene_of a.positions.now a.edges.now a.triangles.now a.seams.now in
    let called = c.check_into in
    let told = c.in_ok-check_into.was in
    let accepted = accepted_from s called.ensures.checked told in
    let room = c.room-most in
    let made = c.list_accepted in (
      tested_as s (listing_accepted s called.ensures.checked _ told room.ensures)
          (rw (one_scene {s = s} called.ensures.into accepted) at made.ensures),
      called.ensures.into,
    )

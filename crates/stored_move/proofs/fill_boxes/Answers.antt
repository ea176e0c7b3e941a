-- `fill_boxes`: each return is right by the tests that led to it.
use Rattle.std.proofs.lemmas.Result.{err_from_is_err_and}
use lib.ListN.{length}
use borrow.Author.Tests.{ltb-false}
use Rattle.meaning.specs.Scene.{scene_of}
use Rattle.meaning.specs.StoredBoxes.{box_numbers}
use Rattle.list_boxes.specs.Parts.{accepted_drawn}
use Rattle.stored_move.specs.Answering.{boxed_passed, filled_refused, filled_done}
use Rattle.stored_move.proofs.fill_boxes.Goals as goal

pub returns-in_err-check_boxed : goal.returns-in_err-check_boxed
returns-in_err-check_boxed c =
    let a = c.args in
    let s = scene_of a.positions.now a.edges.now a.triangles.now a.seams.now in
    let (y, is, same) = err_from_is_err_and c.from_residual.result c.from_residual.ensures.1 in
    rw (is, same) (filled_refused s a.boxes.now _ c.in_err-check_boxed.was c.check_boxed.ensures)

pub fill-requires : goal.fill-requires
fill-requires c =
    let a = c.args in
    let s = scene_of a.positions.now a.edges.now a.triangles.now a.seams.now in
    let (long, accepted) = boxed_passed s a.boxes.now c.in_ok-check_boxed.was c.check_boxed.ensures in
    (accepted_drawn accepted, ltb-false (length a.boxes.now) box_numbers long)

pub returns : goal.returns
returns c =
    let a = c.args in
    let s = scene_of a.positions.now a.edges.now a.triangles.now a.seams.now in
    let (long, accepted) = boxed_passed s a.boxes.now c.in_ok-check_boxed.was c.check_boxed.ensures in
    filled_done s a.boxes.now long accepted (c.fill.ensures a.seams.now)

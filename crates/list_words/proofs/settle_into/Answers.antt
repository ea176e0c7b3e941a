-- `settle_into`: refused as the scene is, or listed and judged over the table.
use Rattle.std.proofs.lemmas.Result.{err_from_is_err_and}
use Rattle.meaning.specs.Scene.{scene_of, Accepted}
use Rattle.scene_checks.specs.Accepting.{accepted_by}
use Rattle.scene_checks.specs.Checking.{to_table}
use Rattle.list_words.specs.Answering.{judged_refused, judged_accepted, settled_in_table}
use Rattle.list_words.proofs.settle_into.Goals as goal

pub returns-in_err-check_into : goal.returns-in_err-check_into
returns-in_err-check_into c =
    let a = c.args in
    let s = scene_of a.positions.now a.edges.now a.triangles.now a.seams.now in
    let called = c.check_into.ensures in
    let (y, is, same) = err_from_is_err_and c.from_residual.result c.from_residual.ensures.1 in
    (rw (is, same) (judged_refused s _ _ _ called.checked c.in_err-check_into.was), called.into)

pub settle_accepted-requires : goal.settle_accepted-requires
settle_accepted-requires c =
    let a = c.args in
    let s = scene_of a.positions.now a.edges.now a.triangles.now a.seams.now in
    let called = c.check_into.ensures in
    let accepted = accepted_by s c.in_ok-check_into.was called.checked in
    to_table Accepted called.into accepted accepted

pub returns : goal.returns
returns c =
    let a = c.args in
    let s = scene_of a.positions.now a.edges.now a.triangles.now a.seams.now in
    let called = c.check_into.ensures in
    let accepted = accepted_by s c.in_ok-check_into.was called.checked in
    (judged_accepted s accepted (settled_in_table called.into accepted c.settle_accepted.ensures), called.into)

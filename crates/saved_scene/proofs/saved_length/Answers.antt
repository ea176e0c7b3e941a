use Rattle.std.proofs.lemmas.Result.{err_from_is_err_and}
use Rattle.meaning.specs.Scene.{scene_of}
use Rattle.scene_checks.specs.Accepting.{accepted_by}
use Rattle.saved_scene.specs.Answering.{measured_refused, measured_long, measured_given}
use Rattle.saved_scene.proofs.saved_length.Goals as goal

pub text_length-length-requires : goal.text_length-length-requires
text_length-length-requires c = accepted_by _ c.in_ok-check_scene.was c.check_scene.ensures

pub returns-in_err-check_scene : goal.returns-in_err-check_scene
returns-in_err-check_scene c =
    let a = c.args in
    let s = scene_of a.positions.now a.edges.now a.triangles.now a.seams.now in
    let (y, is, same) = err_from_is_err_and c.from_residual.result c.from_residual.ensures.1 in
    rw (is, same) (measured_refused s c.check_scene.ensures _ c.in_err-check_scene.was)

pub returns-then-length-gt-TEXT_LIMIT : goal.returns-then-length-gt-TEXT_LIMIT
returns-then-length-gt-TEXT_LIMIT c =
    let a = c.args in
    let s = scene_of a.positions.now a.edges.now a.triangles.now a.seams.now in
    rw c.from.ensures (measured_long s c.check_scene.ensures c.in_ok-check_scene.was c.text_length-length.ensures c.if-length-gt-TEXT_LIMIT.true)

pub returns : goal.returns
returns c =
    let a = c.args in
    let s = scene_of a.positions.now a.edges.now a.triangles.now a.seams.now in
    measured_given s c.check_scene.ensures c.in_ok-check_scene.was c.text_length-length.ensures c.if-length-gt-TEXT_LIMIT.false

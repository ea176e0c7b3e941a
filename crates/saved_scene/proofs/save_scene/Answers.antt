use native.Mathlib.Omega.{arith}
use Rattle.std.proofs.lemmas.Result.{err_from_is_err_and}
use Rattle.meaning.specs.Scene.{scene_of}
use Rattle.sequences.specs.Wrote.{wrote_front}
use Rattle.saved_scene.specs.Answering.{measured_accepted, measured_is, saved_refused, saved_no_room, saved_given}
use Rattle.saved_scene.proofs.save_scene.Goals as goal

pub write_text-requires : goal.write_text-requires
write_text-requires c =
    let a = c.args in
    let s = scene_of a.positions.now a.edges.now a.triangles.now a.seams.now in
    let m = c.saved_length.ensures in
    let e = c.in_ok-length.was in record { accepted = measured_accepted s m e; seams_in_bounds = omega (arith, measured_is s m e) }

pub returns-in_err-length : goal.returns-in_err-length
returns-in_err-length c =
    let a = c.args in
    let s = scene_of a.positions.now a.edges.now a.triangles.now a.seams.now in
    let (y, is, same) = err_from_is_err_and c.from_residual.result c.from_residual.ensures.1 in
    rw (is, same) (saved_refused s c.saved_length.ensures _ c.in_err-length.was _)

pub returns-then-text-length : goal.returns-then-text-length
returns-then-text-length c =
    let a = c.args in
    let s = scene_of a.positions.now a.edges.now a.triangles.now a.seams.now in
    saved_no_room s c.saved_length.ensures c.in_ok-length.was _ c.if-text-length.true

pub returns : goal.returns
returns c =
    let a = c.args in
    let s = scene_of a.positions.now a.edges.now a.triangles.now a.seams.now in
    saved_given s c.saved_length.ensures c.in_ok-length.was _ c.if-text-length.false (wrote_front c.write_text.ensures)

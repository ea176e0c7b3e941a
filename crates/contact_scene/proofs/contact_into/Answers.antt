-- The scene is checked, then its range, and then it is met, over the table of its seams.
use mathlib.Core.Path.{sym, ◌∙◌}
use Rattle.std.proofs.lemmas.Result.{err_from_is_err_and}
use Rattle.meaning.specs.Limits.{contact_limit}
use Rattle.meaning.specs.Scene.{scene_of, AcceptedWithin}
use Rattle.scene_checks.specs.Accepting.{accepted_by}
use Rattle.scene_checks.specs.Checking.{one_scene, to_table}
use Rattle.contact_pair.specs.Ready.{within_old}
use Rattle.contact_scene.specs.Answering.{met_refused, met_beyond, met_near}
use Rattle.contact_scene.proofs.contact_into.Goals as goal

pub returns-in_err-check_into : goal.returns-in_err-check_into
returns-in_err-check_into c =
    let a = c.args in
    let called = c.check_into.ensures in
    let (y, is, same) = err_from_is_err_and c.from_residual.result c.from_residual.ensures.1 in
    (rw (is, same) (met_refused (scene_of a.positions.now a.edges.now a.triangles.now a.seams.now) _ _ _ c.in_err-check_into.field-0.0 called.checked c.in_err-check_into.was), called.into)

pub returns-then-beyond_old_range : goal.returns-then-beyond_old_range
returns-then-beyond_old_range c =
    let a = c.args in
    let called = c.check_into.ensures in
    let s = scene_of a.positions.now a.edges.now a.triangles.now a.seams.now in
    (rw c.from.ensures (met_beyond s _ _ _ (accepted_by s c.in_ok-check_into.was called.checked) (sym c.beyond_old_range.ensures ∙ c.if-beyond_old_range.true)), called.into)

pub contact_near-requires : goal.contact_near-requires
contact_near-requires c =
    let a = c.args in
    let called = c.check_into.ensures in
    let accepted = accepted_by (scene_of a.positions.now a.edges.now a.triangles.now a.seams.now) c.in_ok-check_into.was called.checked in
    to_table (AcceptedWithin contact_limit) called.into accepted (within_old accepted (sym c.beyond_old_range.ensures ∙ c.if-beyond_old_range.false))

pub returns : goal.returns
returns c =
    let a = c.args in
    let s = (scene_of a.positions.now a.edges.now a.triangles.now a.seams.now) in
    let called = c.check_into.ensures in
    let accepted = accepted_by s c.in_ok-check_into.was called.checked in (
      met_near s _ _ _ accepted (sym c.beyond_old_range.ensures ∙ c.if-beyond_old_range.false)
          (rw (one_scene {s = s} called.into accepted) at c.contact_near.ensures),
      called.into,
    )

-- The scene's refusals, 8, what the first pass found, 7; and only where none of these refuses are the claims answered. The claims are looked at
-- beside the scene that the table tells, which is the scene.
use Rattle.std.proofs.lemmas.Result.{err_from_is_err_and}
use Rattle.meaning.specs.Scene.{scene_of, Accepted}
use Rattle.meaning.specs.Claims.{claims_first}
use Rattle.answers_order.specs.InOrder.{Checked}
use Rattle.scene_checks.specs.Checking.{to_table}
use Rattle.claim_answers.specs.Checking.{scene_first, both_passed, checked_first, checked_faulty, checked_short, claims_roomy, checked_given, checked_in_table}
use Rattle.claim_answers.proofs.check_into.Goals as goal

pub returns-in_err-first_of : goal.returns-in_err-first_of
returns-in_err-first_of c =
    let a = c.args in
    let s = scene_of a.positions.now a.edges.now a.triangles.now a.seams.now in
    let called = c.check_into-scene.ensures in
    let first : Checked (claims_first s a.text.now) c.first_of.result =
    rw (c.first_of.ensures, c.refused_if-brief.ensures) (scene_first s a.text.now a.answers.now c.check_into-scene.result called.checked) in
    let (y, is, same) = err_from_is_err_and c.from_residual.result c.from_residual.ensures.1 in
    (rw (is, same) (checked_first s a.text.now a.answers.now first c.in_err-first_of.was), called.into)

pub returns-then-answers-count : goal.returns-then-answers-count
returns-then-answers-count c =
    let a = c.args in
    let s = scene_of a.positions.now a.edges.now a.triangles.now a.seams.now in
    let called = c.check_into-scene.ensures in
    let first : Checked (claims_first s a.text.now) c.first_of.result =
    rw (c.first_of.ensures, c.refused_if-brief.ensures) (scene_first s a.text.now a.answers.now c.check_into-scene.result called.checked) in
    let (accepted, brief) = both_passed s a.text.now a.answers.now c.in_ok-first_of.was first in
    let too = to_table Accepted called.into accepted accepted in (
      checked_in_table called.into accepted
          (checked_short _ _ _ too brief c.inspect.ensures c.in_ok-count.was c.if-answers-count.true),
      called.into,
    )

pub answer_all-requires : goal.answer_all-requires
answer_all-requires c =
    let a = c.args in
    let s = scene_of a.positions.now a.edges.now a.triangles.now a.seams.now in
    let called = c.check_into-scene.ensures in
    let first : Checked (claims_first s a.text.now) c.first_of.result =
    rw (c.first_of.ensures, c.refused_if-brief.ensures) (scene_first s a.text.now a.answers.now c.check_into-scene.result called.checked) in
    let (accepted, brief) = both_passed s a.text.now a.answers.now c.in_ok-first_of.was first in
    let too = to_table Accepted called.into accepted accepted in record { accepted = too; roomy = claims_roomy _ _ _ too brief c.inspect.ensures c.in_ok-count.was c.if-answers-count.false }

pub returns-in_err-count : goal.returns-in_err-count
returns-in_err-count c =
    let a = c.args in
    let s = scene_of a.positions.now a.edges.now a.triangles.now a.seams.now in
    let called = c.check_into-scene.ensures in
    let first : Checked (claims_first s a.text.now) c.first_of.result =
    rw (c.first_of.ensures, c.refused_if-brief.ensures) (scene_first s a.text.now a.answers.now c.check_into-scene.result called.checked) in
    let (accepted, brief) = both_passed s a.text.now a.answers.now c.in_ok-first_of.was first in
    let too = to_table Accepted called.into accepted accepted in
    let (y, is, same) = err_from_is_err_and c.from_residual-in_err-count.result c.from_residual-in_err-count.ensures.1 in (
      rw (is, same) (checked_in_table called.into accepted
          (checked_faulty _ _ _ too brief c.inspect.ensures c.in_err-count.was)),
      called.into,
    )

pub returns : goal.returns
returns c =
    let a = c.args in
    let s = scene_of a.positions.now a.edges.now a.triangles.now a.seams.now in
    let called = c.check_into-scene.ensures in
    let first : Checked (claims_first s a.text.now) c.first_of.result =
    rw (c.first_of.ensures, c.refused_if-brief.ensures) (scene_first s a.text.now a.answers.now c.check_into-scene.result called.checked) in
    let (accepted, brief) = both_passed s a.text.now a.answers.now c.in_ok-first_of.was first in
    let too = to_table Accepted called.into accepted accepted in (
      checked_in_table called.into accepted
          (checked_given _ _ _ too brief c.inspect.ensures c.in_ok-count.was c.if-answers-count.false c.answer_all.ensures),
      called.into,
    )

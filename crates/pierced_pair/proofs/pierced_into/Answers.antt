-- `pierced_into`: refused as the scene is, or answered over the table.
use Rattle.std.proofs.lemmas.Result.{err_from_is_err_and}
use Rattle.meaning.specs.Scene.{Scene, scene_of, Accepted}
use Rattle.meaning.specs.Refusals.{Answers, outcome_alone}
use Rattle.meaning.specs.Pierced.{pierced_asked, PiercedIs}
use Rattle.scene_checks.specs.Accepting.{accepted_by, after_accepted, after_refused}
use Rattle.scene_checks.specs.Checking.{to_table, from_table}
use Rattle.pierced_pair.proofs.pierced_into.Goals as goal

pub returns-in_err-check_into : goal.returns-in_err-check_into
unfolding outcome_alone
returns-in_err-check_into c =
    let a = c.args in
    let s = scene_of a.positions.now a.edges.now a.triangles.now a.seams.now in
    let called = c.check_into in
    let (y, is, same) = err_from_is_err_and c.from_residual.result c.from_residual.ensures.1 in
    (rw (is, same) (after_refused s (pierced_asked s a.edge a.triangle) (PiercedIs s a.frame a.edge a.triangle) c.in_err-check_into.was called.ensures.checked), called.ensures.into)

pub answer-requires : goal.answer-requires
answer-requires c =
    let a = c.args in
    let s = scene_of a.positions.now a.edges.now a.triangles.now a.seams.now in
    let called = c.check_into in
    let accepted = accepted_by s c.in_ok-check_into.was called.ensures.checked in
    to_table {s = s} (λ (u : Scene). Accepted u) called.ensures.into accepted accepted

pub returns : goal.returns
returns c =
    let a = c.args in
    let s = scene_of a.positions.now a.edges.now a.triangles.now a.seams.now in
    let called = c.check_into in
    let accepted = accepted_by s c.in_ok-check_into.was called.ensures.checked in (
      after_accepted s (pierced_asked s a.edge a.triangle) (PiercedIs s a.frame a.edge a.triangle) (outcome_alone c.answer.result) accepted
          (from_table {s = s} (λ (u : Scene). Answers (pierced_asked u a.edge a.triangle) (PiercedIs u a.frame a.edge a.triangle) (outcome_alone c.answer.result))
          called.ensures.into accepted c.answer.ensures),
      called.ensures.into,
    )

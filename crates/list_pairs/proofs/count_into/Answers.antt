-- `count_into`: a refusal of the check is passed on, and an accepted scene's pairs are counted, by the table of its seams.
use Rattle.std.proofs.lemmas.Result.{err_from_is_err_and}
use mathlib.Core.Path.{◌≡◌}
use lib.ListN.{length}
use Rattle.meaning.specs.Scene.{Scene, scene_of, Accepted}
use Rattle.meaning.specs.List.{pairs}
use Rattle.meaning.specs.Runs.{box_tests}
use Rattle.scene_checks.specs.Checking.{to_table, from_table}
use Rattle.list_pairs.specs.Answering.{accepted_from, counted_refused, counted_accepted, tested_refused, tested_listed}
use Rattle.list_pairs.proofs.count_into.Goals as goal

pub count_accepted-walk-requires : goal.count_accepted-walk-requires
count_accepted-walk-requires c =
    let called = c.check_into in
    let accepted = accepted_from _ called.ensures.checked c.in_ok-check_into.was in
    to_table Accepted called.ensures.into accepted accepted

pub returns-in_err-check_into : goal.returns-in_err-check_into
returns-in_err-check_into c =
    let a = c.args in
    let s = scene_of a.positions.now a.edges.now a.triangles.now a.seams.now in
    let called = c.check_into in
    let (y, is, same) = err_from_is_err_and c.from_residual.result c.from_residual.ensures.1 in
    (rw (is, same) (tested_refused s (counted_refused s called.ensures.checked _ c.in_err-check_into.was)), called.ensures.into)

pub returns : goal.returns
returns c =
    let a = c.args in
    let s = scene_of a.positions.now a.edges.now a.triangles.now a.seams.now in
    let called = c.check_into in
    let told = c.in_ok-check_into.was in
    let accepted = accepted_from s called.ensures.checked told in
    let walked = c.count_accepted-walk in (
      tested_listed s
          (counted_accepted s called.ensures.checked told
          (from_table (λ (u : Scene). walked.result.next ≡ length (pairs u)) called.ensures.into accepted walked.ensures.0))
          c.put_tests.ensures
          (from_table (λ (u : Scene). walked.result.tests ≡ box_tests u) called.ensures.into accepted walked.ensures.1),
      called.ensures.into,
    )

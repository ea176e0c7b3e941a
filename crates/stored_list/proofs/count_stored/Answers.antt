-- `count_stored`: a refusal of the look is passed on, and the pairs are counted over the stored boxes.
use borrow.Author.Rules.{rules}
use Rattle.std.proofs.lemmas.Result.{err_from_is_err_and}
use mathlib.Core.Path.{◌≡◌}
use lib.ListN.{length}
use Rattle.meaning.specs.Scene.{Scene, scene_of, Accepted}
use Rattle.meaning.specs.StoredBoxes.{Boxed}
use Rattle.scene_seams.specs.Sewing.{blank_table}
use Rattle.meaning.specs.List.{pairs}
use Rattle.meaning.specs.Runs.{box_tests}
use Rattle.scene_checks.specs.Checking.{to_table, from_table}
use Rattle.list_pairs.specs.Answering.{tested_refused, tested_listed}
use Rattle.stored_checks.specs.Looked.{passed}
use Rattle.stored_list.specs.Calls.{counted_refused, counted_right}
use Rattle.stored_list.proofs.count_stored.Goals as goal

pub prepare_stored-requires : goal.prepare_stored-requires
prepare_stored-requires c =
    let a = c.args in
    let s = scene_of a.positions.now a.edges.now a.triangles.now a.seams.now in
    let p = passed c.look.ensures c.in_ok-look.was in
    (to_table Accepted p.into p.accepted p.accepted, to_table (λ (u : Scene). Boxed u a.stored.now) p.into p.accepted p.boxed, search rules)

pub returns-in_err-look : goal.returns-in_err-look
returns-in_err-look c =
    let a = c.args in
    let s = scene_of a.positions.now a.edges.now a.triangles.now a.seams.now in
    let (y, is, same) = err_from_is_err_and c.from_residual.result c.from_residual.ensures.1 in
    rw (is, same) (tested_refused s (counted_refused c.look.ensures _ c.in_err-look.was))

pub returns : goal.returns
returns c =
    let a = c.args in
    let s = scene_of a.positions.now a.edges.now a.triangles.now a.seams.now in
    let called = c.look.ensures in
    let told = c.in_ok-look.was in
    let p = passed called told in
    let walked = c.count_prepared-walk in
    tested_listed s
    (counted_right called told (from_table (λ (u : Scene). walked.result.next ≡ length (pairs u)) p.into p.accepted walked.ensures.0))
    c.put_tests.ensures
    (from_table (λ (u : Scene). walked.result.tests ≡ box_tests u) p.into p.accepted walked.ensures.1)

pub look-requires : goal.look-requires
look-requires c = blank_table _

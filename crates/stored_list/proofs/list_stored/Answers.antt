-- `list_stored`: a refusal of the look is passed on, and the list is made over the stored boxes.
use borrow.Author.Rules.{rules}
use native.Mathlib.Omega.{arith}
use Rattle.std.proofs.lemmas.Result.{err_from_is_err_and}
use Rattle.meaning.specs.Scene.{Scene, scene_of, Accepted}
use Rattle.meaning.specs.StoredBoxes.{Boxed}
use Rattle.scene_seams.specs.Sewing.{blank_table}
use Rattle.scene_checks.specs.Checking.{one_scene, to_table}
use Rattle.list_pairs.specs.Answering.{tested_refused, tested_as}
use Rattle.stored_checks.specs.Looked.{passed}
use Rattle.stored_list.specs.Calls.{listed_refused, listed_right}
use Rattle.stored_list.proofs.list_stored.Goals as goal

pub prepare_stored-requires : goal.prepare_stored-requires
prepare_stored-requires c =
    let a = c.args in
    let s = scene_of a.positions.now a.edges.now a.triangles.now a.seams.now in
    let p = passed c.look.ensures c.in_ok-look.was in
    (to_table Accepted p.into p.accepted p.accepted, to_table (λ (u : Scene). Boxed u a.stored.now) p.into p.accepted p.boxed, search rules)

pub list_prepared-requires : goal.list_prepared-requires
list_prepared-requires c = (c.prepare_stored.ensures, omega (arith, c.room-most.ensures))

pub returns-in_err-look : goal.returns-in_err-look
returns-in_err-look c =
    let a = c.args in
    let s = scene_of a.positions.now a.edges.now a.triangles.now a.seams.now in
    let (y, is, same) = err_from_is_err_and c.from_residual.result c.from_residual.ensures.1 in
    rw (is, same) (tested_refused s (listed_refused c.look.ensures _ _ c.in_err-look.was))

pub returns : goal.returns
returns c =
    let a = c.args in
    let s = scene_of a.positions.now a.edges.now a.triangles.now a.seams.now in
    let called = c.look.ensures in
    let told = c.in_ok-look.was in
    let p = passed called told in
    tested_as s (listed_right called told c.room-most.ensures) (rw (one_scene {s = s} p.into p.accepted) at c.list_prepared.ensures)

pub look-requires : goal.look-requires
look-requires c = blank_table _

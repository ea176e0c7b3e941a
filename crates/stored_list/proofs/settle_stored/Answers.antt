-- `settle_stored`: a refusal of the look is passed on, and the pairs are listed and judged over the stored boxes.
use borrow.Author.Rules.{rules}
use Rattle.std.proofs.lemmas.Result.{err_from_is_err_and}
use Rattle.meaning.specs.Scene.{Scene, scene_of, Accepted}
use Rattle.meaning.specs.StoredBoxes.{Boxed}
use Rattle.scene_seams.specs.Sewing.{blank_table}
use Rattle.scene_checks.specs.Checking.{to_table}
use Rattle.stored_checks.specs.Looked.{passed}
use Rattle.list_words.specs.Answering.{settled_in_table}
use Rattle.stored_list.specs.Settling.{settled_refused, settled_right}
use Rattle.stored_list.proofs.settle_stored.Goals as goal

pub prepare_stored-requires : goal.prepare_stored-requires
prepare_stored-requires c =
    let a = c.args in
    let s = scene_of a.positions.now a.edges.now a.triangles.now a.seams.now in
    let p = passed c.look.ensures c.in_ok-look.was in
    (to_table Accepted p.into p.accepted p.accepted, to_table (λ (u : Scene). Boxed u a.stored.now) p.into p.accepted p.boxed, search rules)

pub returns-in_err-look : goal.returns-in_err-look
returns-in_err-look c =
    let (y, is, same) = err_from_is_err_and c.from_residual.result c.from_residual.ensures.1 in
    rw (is, same) (settled_refused c.look.ensures _ _ _ c.in_err-look.was)

pub returns : goal.returns
returns c =
    let called = c.look.ensures in
    let told = c.in_ok-look.was in
    let p = passed called told in
    settled_right called told (settled_in_table p.into p.accepted c.settle_prepared.ensures)

pub look-requires : goal.look-requires
look-requires c = blank_table _

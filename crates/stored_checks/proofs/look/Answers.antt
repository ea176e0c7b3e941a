-- `look`: each return is right by the tests that led to it.
use borrow.Author.Rules.{rules}
use Rattle.std.proofs.lemmas.Result.{err_from_is_err_and}
use borrow.Author.Tests.{lt-ltb, le-ltb}
use Rattle.meaning.specs.Scene.{scene_of}
use Rattle.scene_checks.specs.Accepting.{accepted_by}
use Rattle.stored_checks.specs.Looked.{drawn_by, look_short, look_refused, look_behind}
use Rattle.stored_checks.proofs.look.Goals as goal

pub look_over-requires : goal.look_over-requires
look_over-requires c = (drawn_by c.check_into.ensures c.in_ok-check_into.was, search rules)

pub returns-then-stored-lt-BOX_NUMBERS : goal.returns-then-stored-lt-BOX_NUMBERS
returns-then-stored-lt-BOX_NUMBERS c =
    let a = c.args in
    let s = scene_of a.positions.now a.edges.now a.triangles.now a.seams.now in
    look_short s a.stored.now (lt-ltb _ _ c.if-stored-lt-BOX_NUMBERS.true)

pub returns-in_err-check_into : goal.returns-in_err-check_into
returns-in_err-check_into c =
    let a = c.args in
    let s = scene_of a.positions.now a.edges.now a.triangles.now a.seams.now in
    let (y, is, same) = err_from_is_err_and c.from_residual.result c.from_residual.ensures.1 in
    rw (is, same)
    (look_refused s a.stored.now (le-ltb _ _ c.if-stored-lt-BOX_NUMBERS.false) c.check_into.ensures.into _ c.in_err-check_into.was c.check_into.ensures.checked)

pub returns : goal.returns
returns c =
    let a = c.args in
    let s = scene_of a.positions.now a.edges.now a.triangles.now a.seams.now in
    let accepted = accepted_by s c.in_ok-check_into.was c.check_into.ensures.checked in
    look_behind s a.stored.now (le-ltb _ _ c.if-stored-lt-BOX_NUMBERS.false) c.check_into.ensures.into c.look_over.result accepted (c.look_over.ensures a.seams.now)

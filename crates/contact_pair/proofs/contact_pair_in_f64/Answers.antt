-- The same, with the numbers as they are handed out.
use Rattle.std.proofs.lemmas.Result.{err_from_is_err_and}
use Rattle.meaning.specs.Scene.{scene_of}
use Rattle.contact_pair.specs.Answering.{contact_refused, contact_given}
use Rattle.contact_pair.proofs.contact_pair_in_f64.Goals as goal

pub returns-in_err-contact : goal.returns-in_err-contact
returns-in_err-contact c =
    let a = c.args in
    let (y, is, same) = err_from_is_err_and c.from_residual.result c.from_residual.ensures.1 in
    rw (is, same) (contact_refused (scene_of a.positions.now a.edges.now a.triangles.now a.seams.now) a.kind a.first a.second _ c.contact_pair.ensures c.in_err-contact.was)

pub returns : goal.returns
returns c =
    let a = c.args in
    contact_given (scene_of a.positions.now a.edges.now a.triangles.now a.seams.now) a.kind a.first a.second _ c.contact_pair.ensures c.in_ok-contact.was _ c.contact_of.ensures

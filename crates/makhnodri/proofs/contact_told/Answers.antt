use native.Mathlib.Omega.{arith}
use Rattle.meaning.specs.Scene.{scene_of}
use Rattle.c_numbers.specs.Contacts.{found_small, contact_told, contact_refused_told}
use Rattle.makhnodri.proofs.contact_told.Goals as goal

-- The word of a contact, its row in the lent array; or the refusal, and the array as it was.
pub put_contact-requires : goal.put_contact-requires
put_contact-requires c =
    let a = c.args in
    found_small (scene_of a.positions.now a.edges.now a.triangles.now a.seams.now) a.kind a.first a.second _ c.contact_pair.ensures c.in-Ok.found (search)

pub returns-in-Ok : goal.returns-in-Ok
returns-in-Ok c =
    let a = c.args in
    contact_told (scene_of a.positions.now a.edges.now a.triangles.now a.seams.now) a.kind a.first a.second _ c.contact_pair.ensures c.in-Ok.found _ _ _ (search) c.put_contact.ensures c.word_number.ensures

pub returns-in-Err : goal.returns-in-Err
returns-in-Err c =
    let a = c.args in
    contact_refused_told (scene_of a.positions.now a.edges.now a.triangles.now a.seams.now) a.kind a.first a.second _ c.contact_pair.ensures c.in-Err.why _ _ (search) c.refused.ensures

pub refused-requires : goal.refused-requires
refused-requires c = omega arith

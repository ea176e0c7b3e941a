use Rattle.makhnodri.proofs.meshes.makhnodri_keep_near_contacts_slices.Goals as goal

-- What was wanted is what the lent number asks for.
pub returns : goal.returns
returns c =
    let told = c.tell_kept.ensures in
    let asked = c.wanted_by.ensures in
    let kept = c.keep_contacts-answer.ensures in
    record { answer = _; right = rw asked at kept; is = told.0; told = told.1 }

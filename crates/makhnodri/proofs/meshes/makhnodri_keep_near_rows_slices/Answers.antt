use Rattle.makhnodri.proofs.meshes.makhnodri_keep_near_rows_slices.Goals as goal

-- What was wanted is what the lent number asks for.
pub returns : goal.returns
returns c =
    let told = c.tell_kept.ensures in
    record { answer = _; right = rw c.wanted_by.ensures at c.keep_rows-answer.ensures; is = told.0; told = told.1 }

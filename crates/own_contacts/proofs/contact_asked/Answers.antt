-- `contact_asked`: an entry is at fault, or the entries are met.
use Rattle.std.proofs.lemmas.Result.{err_from_is_err_and}
use Rattle.own_words.specs.Faults.{so_many, all_there}
use Rattle.own_contacts.specs.Answering.{asked_faulty, asked_sound}
use Rattle.own_contacts.proofs.contact_asked.Goals as goal

pub returns-in_err-first_fault : goal.returns-in_err-first_fault
returns-in_err-first_fault c =
    let (y, is, same) = err_from_is_err_and c.from_residual.result c.from_residual.ensures.1 in
    rw (is, same) (asked_faulty _ _ _ _ c.first_fault.ensures _ c.in_err-first_fault.was)

pub contact_sound-requires : goal.contact_sound-requires
contact_sound-requires c =
    let m = c.in_ok-first_fault.field-0 in
    (c.requires, rw (so_many {m = m} c.first_fault.ensures c.in_ok-first_fault.was) at (all_there {m = m} c.first_fault.ensures c.in_ok-first_fault.was))

pub returns : goal.returns
returns c = asked_sound _ _ _ _ c.first_fault.ensures {m = c.in_ok-first_fault.field-0} c.in_ok-first_fault.was c.contact_sound.ensures

use Rattle.c_meshes.specs.Telling.{kept_made, kept_refused}
use Rattle.c_meshes.proofs.tell_kept.Goals as goal

pub returns-in-Ok : goal.returns-in-Ok
returns-in-Ok c = kept_made c.args.told.now c.in-Ok.is c.put_kept.ensures

pub returns-in-Err : goal.returns-in-Err
returns-in-Err c =
    kept_refused c.args.told.now c.in-Err.is c.small_number.ensures
    c.put_needed.ensures

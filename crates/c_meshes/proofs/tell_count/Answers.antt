use Rattle.c_meshes.specs.Telling.{count_made, count_refused}
use Rattle.c_meshes.proofs.tell_count.Goals as goal

pub returns-in-Ok : goal.returns-in-Ok
returns-in-Ok c = count_made c.args.told.now c.in-Ok.is c.put_count.ensures

pub returns-in-Err : goal.returns-in-Err
returns-in-Err c =
    count_refused c.args.told.now c.in-Err.is c.small_number.ensures
    c.put_needed.ensures

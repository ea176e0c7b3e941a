use Rattle.c_numbers.specs.Telling.{settled_decided, settled_refused}
use Rattle.c_numbers.proofs.settled_number.Goals as goal

pub returns-in-Ok : goal.returns-in-Ok
returns-in-Ok c = settled_decided c.in-Ok.is c.byte_of.ensures

pub returns-in-Err : goal.returns-in-Err
returns-in-Err c = settled_refused c.in-Err.is c.refused.ensures

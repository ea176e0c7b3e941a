use mathlib.Core.Path.{refl}
use Rattle.c_numbers.specs.Telling.{count_given, count_carried, count_refused}
use Rattle.c_numbers.proofs.count_number.Goals as goal

pub refused-requires : goal.refused-requires
refused-requires c = count_carried c.in-Err.is c.requires

pub returns-in-Ok : goal.returns-in-Ok
returns-in-Ok c = count_given c.in-Ok.is refl

pub returns-in-Err : goal.returns-in-Err
returns-in-Err c = count_refused c.in-Err.is c.refused.ensures

-- `count_of`: case by case.
use mathlib.Core.Path.{refl}
use Rattle.series_leave.specs.Leaving.{count_of}
use Rattle.series_leave.proofs.count_of.Goals as goal

pub returns-in-Ok : goal.returns-in-Ok
unfolding count_of
returns-in-Ok c = rw c.in-Ok.is refl

pub returns-in-Err : goal.returns-in-Err
unfolding count_of
returns-in-Err c = rw c.in-Err.is refl

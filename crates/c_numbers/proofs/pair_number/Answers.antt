use Rattle.c_numbers.specs.Telling.{pair_judged, pair_refused}
use Rattle.c_numbers.proofs.pair_number.Goals as goal

pub returns-in-Ok : goal.returns-in-Ok
returns-in-Ok c = pair_judged c.in-Ok.is c.verdict_number.ensures

pub returns-in-Err : goal.returns-in-Err
returns-in-Err c = pair_refused c.in-Err.is c.refused.ensures

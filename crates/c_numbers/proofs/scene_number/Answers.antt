use Rattle.meaning.specs.Numbers.{number_for, scene_number}
use Rattle.c_numbers.specs.Telling.{scene_refused}
use Rattle.c_numbers.proofs.scene_number.Goals as goal
use Rattle.meaning.specs.Refusals.{outcome_alone}

pub returns-in-Ok : goal.returns-in-Ok
unfolding scene_number outcome_alone number_for
returns-in-Ok c = rw c.in-Ok.is

pub returns-in-Err : goal.returns-in-Err
returns-in-Err c = scene_refused c.in-Err.is c.refused.ensures

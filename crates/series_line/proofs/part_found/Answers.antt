-- `series_line::part_found` meets its contract: each arm is the case of the definition.
use Rattle.series_line.specs.Reading.{part_found}
use Rattle.series_line.proofs.part_found.Goals as goal

pub returns-in-Some : goal.returns-in-Some
unfolding part_found
returns-in-Some c = cc c.in-Some.is

pub returns-in-None : goal.returns-in-None
unfolding part_found
returns-in-None c = cc c.in-None.is

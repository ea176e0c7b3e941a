use Rattle.meaning.specs.ImportNumbers.{file_bit}
use Rattle.c_numbers.proofs.file_bit.Goals as goal

pub returns-in-Start : goal.returns-in-Start
unfolding file_bit
returns-in-Start c = rw c.in-Start.is

pub returns-in-End : goal.returns-in-End
unfolding file_bit
returns-in-End c = rw c.in-End.is

use Rattle.c_numbers.specs.Stored.{boxed_line, boxed_read, boxed_refused}
use Rattle.makhnodri.proofs.stored.makhnodri_read_boxed_slices.Goals as goal

pub refused-requires : goal.refused-requires
refused-requires c = boxed_line c.read_boxed.ensures c.in-Err.is

pub returns-in-Ok : goal.returns-in-Ok
returns-in-Ok c = boxed_read c.read_boxed.ensures c.in-Ok.is c.put_counts.ensures

pub returns-in-Err : goal.returns-in-Err
returns-in-Err c = boxed_refused c.read_boxed.ensures c.in-Err.is c.refused.ensures

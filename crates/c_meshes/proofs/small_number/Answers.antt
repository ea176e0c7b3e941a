-- A number of the table is small, so that nothing is cut.
use native.Mathlib.Omega.{arith}
use Rattle.answers.specs.Speaking.{number_in_table}
use Rattle.c_meshes.proofs.small_number.Goals as goal

pub overflow_cast-result : goal.overflow_cast-result
overflow_cast-result c = omega (arith, number_in_table c.args.why)

-- `refused`: no refusal's number is large.
use native.Mathlib.Omega.{arith}
use Rattle.answers.specs.Speaking.{number_in_table}
use Rattle.c_series.proofs.refused.Goals as goal

pub overflow_mul-result : goal.overflow_mul-result
overflow_mul-result c = record { fits = omega (arith, c.number_of.ensures, number_in_table c.args.why) }

pub overflow_add-result : goal.overflow_add-result
overflow_add-result c = record { fits = omega (arith, c.number_of.ensures, number_in_table c.args.why) }

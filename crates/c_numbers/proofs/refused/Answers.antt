-- A refusal's number is small, so nothing wraps.
use native.Mathlib.Omega.{arith}
use Rattle.answers.specs.Speaking.{number_in_table}
use Rattle.c_numbers.proofs.refused.Goals as goal

pub overflow_mul-result : goal.overflow_mul-result
overflow_mul-result c = omega (arith, number_in_table c.args.why)

pub overflow_add-result : goal.overflow_add-result
overflow_add-result c = omega (arith, number_in_table c.args.why)

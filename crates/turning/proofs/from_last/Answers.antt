-- `from_last`: of a vertex that is there.
use native.Mathlib.Omega.{arith}
use Rattle.turning_laws.specs.Numbers.{known_number}
use Rattle.turning.proofs.from_last.Goals as goal

pub returns : goal.returns
returns c = rw (known_number c.args.count c.args.v (omega arith)) (omega arith)

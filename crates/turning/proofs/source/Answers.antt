-- `source`: inside the vertices, the place is what the definition computes.
use native.Mathlib.Omega.{arith}
use Rattle.turning_laws.specs.Turned.{source_inside}
use Rattle.turning.proofs.source.Goals as goal

pub returns : goal.returns
returns c = rw (source_inside c.args.count c.args.i (omega arith))

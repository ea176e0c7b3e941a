use Rattle.std.proofs.Common.{arith}
use Rattle.turning.specs.Renumbering.{renumbering_starts, number_here, renumbering_goes, renumbering_ends}
use Rattle.turning.proofs.renumber.Goals as goal

pub loop-number-init : goal.loop-number-init
loop-number-init c = renumbering_starts _ _

pub from_last-requires : goal.from_last-requires
from_last-requires c = (c.requires.0, number_here c.loop-number.invariant c.requires.1 (omega arith))

pub loop-number-preserved : goal.loop-number-preserved
loop-number-preserved c = renumbering_goes c.loop-number.invariant (omega arith) _ c.from_last.ensures

pub returns : goal.returns
returns c = renumbering_ends c.loop-number.invariant (omega arith)

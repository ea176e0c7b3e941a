use native.Mathlib.Omega.{arith}
use Rattle.turning.specs.Exchanging.{exchanging_starts, source_there, exchanging_goes}
use Rattle.turning.specs.Scene.{positions_turned_lem}
use Rattle.turning.proofs.turn_positions.Goals as goal

pub loop-i-init : goal.loop-i-init
loop-i-init c = exchanging_starts _ _

pub exchange-requires : goal.exchange-requires
exchange-requires c =
    let inv = c.loop-i.invariant in
    (omega (arith, inv.long), rw c.source-j.ensures (source_there inv (omega arith) (omega arith)))

pub loop-i-preserved : goal.loop-i-preserved
loop-i-preserved c = exchanging_goes c.loop-i.invariant (omega arith) (omega arith) c.exchange.ensures c.source-j.ensures

pub shape_of-positions : goal.shape_of-positions
shape_of-positions c = c.loop-i.invariant.long

pub returns : goal.returns
returns c = positions_turned_lem c.loop-i.invariant (omega arith)

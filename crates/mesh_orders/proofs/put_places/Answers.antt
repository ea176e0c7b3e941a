use native.Mathlib.Omega.{arith}
use Rattle.mesh_orders.specs.Orders.{placing_starts, placing_goes, placing_ends, placing_long}
use Rattle.mesh_orders.proofs.put_places.Goals as goal

pub put_place-requires : goal.put_place-requires
put_place-requires c = (omega arith, omega (arith, placing_long c.loop-k.invariant), omega arith)

pub loop-k-init : goal.loop-k-init
loop-k-init c = placing_starts _ _

pub loop-k-preserved : goal.loop-k-preserved
loop-k-preserved c = placing_goes c.loop-k.invariant (omega arith) c.put_place.ensures

pub shape_of-inverse : goal.shape_of-inverse
shape_of-inverse c = placing_long c.loop-k.invariant

pub returns : goal.returns
returns c = placing_ends c.loop-k.invariant (omega arith)

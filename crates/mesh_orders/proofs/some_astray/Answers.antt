use native.Mathlib.Omega.{arith}
use Rattle.scene_seams.specs.Scanning.{scan_starts, scan_goes, scan_ends}
use Rattle.mesh_orders.proofs.some_astray.Goals as goal

pub loop-k-init : goal.loop-k-init
loop-k-init c = scan_starts _ _

pub loop-k-preserved : goal.loop-k-preserved
loop-k-preserved c = scan_goes c.loop-k.invariant (omega arith) _ c.astray-found.ensures

pub returns : goal.returns
returns c = scan_ends c.loop-k.invariant (omega arith)

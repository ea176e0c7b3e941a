use native.Mathlib.Omega.{arith}
use lib.Dec.{leb}
use mathlib.Core.Path.{ap}
use Rattle.scene_seams.specs.Scanning.{scan_starts, scan_goes, scan_ends}
use Rattle.mesh_checks.proofs.faults.unknown_in.Goals as goal

pub loop-x-init : goal.loop-x-init
loop-x-init c = scan_starts _ _

pub loop-x-preserved : goal.loop-x-preserved
loop-x-preserved c = scan_goes c.loop-x.invariant (omega arith) _ (ap (leb c.args.count) c.wide.ensures)

pub returns : goal.returns
returns c = scan_ends c.loop-x.invariant (omega arith)

use native.Mathlib.Omega.{arith}
use Rattle.scene_seams.specs.Scanning.{scan_starts, scan_goes, scan_ends}
use Rattle.mesh_checks.proofs.faults.repeated_in_triangles.Goals as goal

pub loop-j-init : goal.loop-j-init
loop-j-init c = scan_starts _ _

pub loop-j-preserved : goal.loop-j-preserved
loop-j-preserved c = scan_goes c.loop-j.invariant (omega arith) _ c.twice_in_triangle-found.ensures

pub returns : goal.returns
returns c = scan_ends c.loop-j.invariant (omega arith)

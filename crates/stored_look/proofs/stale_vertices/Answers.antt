use native.Mathlib.Omega.{arith}
use Rattle.scene_seams.specs.Scanning.{scan_starts, scan_goes, scan_ends}
use Rattle.stored_look.proofs.stale_vertices.Goals as goal

pub loop-v-init : goal.loop-v-init
loop-v-init c = scan_starts _ _

pub loop-v-preserved : goal.loop-v-preserved
loop-v-preserved c = scan_goes c.loop-v.invariant (omega arith) _ c.stale_vertex-found.ensures

pub returns : goal.returns
returns c = scan_ends c.loop-v.invariant (omega arith)

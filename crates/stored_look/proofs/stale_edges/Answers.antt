use native.Mathlib.Omega.{arith}
use Rattle.scene_seams.specs.Scanning.{scan_starts, scan_goes, scan_ends}
use Rattle.stored_look.proofs.stale_edges.Goals as goal

pub stale_edge-found-requires : goal.stale_edge-found-requires
stale_edge-found-requires c = let start = c in record { j_bound = omega arith; ready = record { known = start.requires.edges_value; vertices = start.requires.vertices_in; behind = omega arith; room = omega (arith, start.requires.edges_in_bounds) } }

pub loop-j-init : goal.loop-j-init
loop-j-init c = scan_starts _ _

pub loop-j-preserved : goal.loop-j-preserved
loop-j-preserved c = scan_goes c.loop-j.invariant (omega arith) _ c.stale_edge-found.ensures

pub returns : goal.returns
returns c = scan_ends c.loop-j.invariant (omega arith)

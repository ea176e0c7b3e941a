use native.Mathlib.Omega.{arith}
use Rattle.scene_seams.specs.Scanning.{scan_starts, scan_goes, scan_ends}
use Rattle.stored_look.proofs.stale_triangles.Goals as goal

pub stale_triangle-found-requires : goal.stale_triangle-found-requires
stale_triangle-found-requires c = let start = c in record { j_bound = omega arith; ready = record { known = start.requires.triangles_value; vertices = start.requires.vertices_in; behind = omega arith; room = omega (arith, start.requires.triangles_in_bounds) } }

pub loop-j-init : goal.loop-j-init
loop-j-init c = scan_starts _ _

pub loop-j-preserved : goal.loop-j-preserved
loop-j-preserved c = scan_goes c.loop-j.invariant (omega arith) _ c.stale_triangle-found.ensures

pub returns : goal.returns
returns c = scan_ends c.loop-j.invariant (omega arith)

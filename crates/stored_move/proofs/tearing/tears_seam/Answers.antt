use native.Mathlib.Omega.{arith}
use Rattle.scene_seams.specs.Scanning.{scan_starts, scan_goes, scan_ends}
use Rattle.stored_move.proofs.tearing.tears_seam.Goals as goal

pub tears-found-requires : goal.tears-found-requires
tears-found-requires c = let start = c in (start.requires.0 _ (omega arith), start.requires.1, start.requires.2)

pub loop-k-init : goal.loop-k-init
loop-k-init c = scan_starts _ _

pub loop-k-preserved : goal.loop-k-preserved
loop-k-preserved c = scan_goes c.loop-k.invariant (omega arith) _ c.tears-found.ensures

pub returns : goal.returns
returns c = scan_ends c.loop-k.invariant (omega arith)

use native.Mathlib.Omega.{arith}
use lib.IntN.{pos}
use mir.Facts.{to_z-of_z}
use mir.Syntax.{w32}
use borrow.Author.Rules.{rules}
use lib.ListN.{get_or}
use Rattle.scene_seams.specs.Scanning.{scan_starts, scan_goes, scan_ends}
use Rattle.contact_pair.proofs.beyond_old_range.Goals as goal

pub loop-coordinate-init : goal.loop-coordinate-init
loop-coordinate-init c = scan_starts _ _

pub loop-coordinate-preserved : goal.loop-coordinate-preserved
loop-coordinate-preserved c =
    let z = get_or c.args.positions.now c.loop-coordinate.coordinate-index (pos 0) in
    scan_goes c.loop-coordinate.invariant (omega arith) _ (rw (to_z-of_z {w = w32} {z = z} (search rules)) at c.beyond-found.ensures)

pub returns : goal.returns
returns c = scan_ends c.loop-coordinate.invariant (omega arith)

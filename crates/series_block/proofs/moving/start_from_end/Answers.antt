use native.Mathlib.Omega.{arith}
use lib.ListN.{length-set}
use mir.Facts.{to_z-of_z}
use Rattle.series_block.specs.Moving.{three_stored}
use borrow.Author.Rules.{sfits_of}
use Rattle.series_block.proofs.moving.start_from_end.Goals as goal

pub slice_copy_out-out-2 : goal.slice_copy_out-out-2
slice_copy_out-out-2 c = simp length-set (omega arith)

pub bounds-out-at-2 : goal.bounds-out-at-2
bounds-out-at-2 c = simp length-set (omega arith)

pub slice_copy_out-out-3 : goal.slice_copy_out-out-3
slice_copy_out-out-3 c = simp length-set (omega arith)

pub bounds-out-at-3 : goal.bounds-out-at-3
bounds-out-at-3 c = simp length-set (omega arith)

pub returns : goal.returns
returns c =
    three_stored _ _ _ _ _ (to_z-of_z {w = mir.Syntax.w32} (sfits_of c.out-1.given)) (to_z-of_z {w = mir.Syntax.w32} (sfits_of c.out-2-1.given))
    (to_z-of_z {w = mir.Syntax.w32} (sfits_of c.out-3-1.given))
    (omega arith)

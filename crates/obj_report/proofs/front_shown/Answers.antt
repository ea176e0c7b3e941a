-- What stands in front of each buffer is handed on, and stands for every text of which it was read.
use mathlib.Core.Path.{sym}
use native.Mathlib.Omega.{arith}
use lib.Seq.{length-take-le}
use borrow.Author.Rules.{rules}
use Rattle.obj_report.specs.Asking.{shown_for}
use Rattle.obj_report.specs.ReadSoFar.{printed_of_read}
use Rattle.obj_report.proofs.front_shown.Goals as goal

pub slice_bounds-pair_shown-end : goal.slice_bounds-pair_shown-end
slice_bounds-pair_shown-end c = sym (length-take-le _ _ (omega (arith, c.min-first.ensures)))

pub slice_bounds-pair_shown-end-2 : goal.slice_bounds-pair_shown-end-2
slice_bounds-pair_shown-end-2 c = sym (length-take-le _ _ (omega (arith, c.min-second.ensures)))

pub returns : goal.returns
returns c =
    let start = c in
    printed_of_read (shown_for start.args.asked) start.requires.0 start.requires.1 (rw (c.min-first.ensures, c.min-second.ensures) at c.pair_shown.ensures)

-- What stands in front of each buffer is handed on, and stands for every text of which it was read.
use mathlib.Core.Path.{sym}
use native.Mathlib.Omega.{arith}
use lib.Seq.{length-take-le}
use Rattle.claim_report.specs.ReadSoFar.{answers_of_read}
use Rattle.claim_report.proofs.front_answers.Goals as goal

pub slice_bounds-write_answers-end : goal.slice_bounds-write_answers-end
slice_bounds-write_answers-end c = sym (length-take-le _ _ (omega (arith, c.min-first.ensures)))

pub slice_bounds-write_answers-end-2 : goal.slice_bounds-write_answers-end-2
slice_bounds-write_answers-end-2 c = sym (length-take-le _ _ (omega (arith, c.min-second.ensures)))

pub returns : goal.returns
returns c =
    let start = c in
    answers_of_read start.requires.0 start.requires.1 (rw (c.min-first.ensures, c.min-second.ensures) at c.write_answers.ensures)

use Rattle.std.proofs.Common.{refl, ap, ◌∙◌, Ok}
use Rattle.std.proofs.lemmas.Result.{err_from_is_err_and}
use Rattle.series_block.specs.Taking.{taken_wrong, taken_next, taken_fault, taken_end}
use Rattle.series_block.proofs.take_block_line.Goals as goal

pub returns-in_err-block_line : goal.returns-in_err-block_line
returns-in_err-block_line c =
    let p = err_from_is_err_and c.from_residual.result c.from_residual.ensures.1 in
    rw (p.1, p.2) (taken_wrong _ _ _ _ _ _ _ c.block_line.ensures c.in_err-block_line.was)

pub returns-in-Next : goal.returns-in-Next
returns-in-Next c =
    taken_next _ _ _ _ _ _ _ c.block_line.ensures (c.in_ok-block_line.was ∙ ap Ok c.in-Next.is) c.closed_or.ensures

pub returns-in_err-take_end-in-Ends : goal.returns-in_err-take_end-in-Ends
returns-in_err-take_end-in-Ends c =
    let p = err_from_is_err_and c.from_residual-in_err-take_end-in-Ends.result c.from_residual-in_err-take_end-in-Ends.ensures.1 in
    rw (p.1, p.2)
    (taken_fault _ _ _ _ _ _ _ c.block_line.ensures (c.in_ok-block_line.was ∙ ap Ok c.in-Ends.is) refl c.take_end.ensures c.in_err-take_end-in-Ends.was)

pub returns-in_ok-take_end-in-Ends : goal.returns-in_ok-take_end-in-Ends
returns-in_ok-take_end-in-Ends c =
    taken_end _ _ _ _ _ _ _ c.block_line.ensures (c.in_ok-block_line.was ∙ ap Ok c.in-Ends.is) refl c.take_end.ensures c.in_ok-take_end-in-Ends.was

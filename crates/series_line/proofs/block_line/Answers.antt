-- `series_line::block_line` meets its contract: an `n`, a `v` line of three numbers, or any other line.
use Rattle.std.proofs.Common.{◌≡◌, ◌∙◌, sym, ap, arith, Some, None}
use Rattle.std.proofs.lemmas.Result.{err_from_is_err_and}
use Rattle.series_line.specs.Reading.{BlockLineRead, ends_found, next_stands, ends_got}
use Rattle.series_line.specs.declared.LineFault.TheVariants.{Bad}
use Rattle.series_line.proofs.block_line.Goals as goal

pub returns-then-next_here : goal.returns-then-next_here
unfolding BlockLineRead
returns-then-next_here c = next_stands _ _ (sym c.next_here.ensures ∙ c.if-next_here.true)

pub returns-in_err-next : goal.returns-in_err-next
unfolding ends_found
returns-in_err-next c =
    let p = err_from_is_err_and c.from_residual.result c.from_residual.ensures.1 in
    let none : c.read_row.result ≡ None = grind arith in
    let same : c.in_err-next.field-0.0 ≡ Bad = grind arith in
    rw (p.1, p.2, same) (ends_got c.requires.at_in_bounds c.if-letter-eq118.true c.read_row.ensures (ap ends_found (sym none)))

pub returns-then-letter-eq118 : goal.returns-then-letter-eq118
unfolding ends_found
returns-then-letter-eq118 c =
    let some : c.read_row.result ≡ Some c.in_ok-next.next = grind arith in
    ends_got c.requires.at_in_bounds c.if-letter-eq118.true c.read_row.ensures (ap ends_found (sym some))

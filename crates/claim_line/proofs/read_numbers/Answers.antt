-- A row of nine numbers is read as weights are; the first three are held to nine digits.
use mathlib.Core.Path.{sym, ◌∙◌}
use Rattle.claim_line.specs.Reading.{numbers_wide, numbers_read}
use Rattle.claim_line.proofs.read_numbers.Goals as goal

pub returns-then-wide : goal.returns-then-wide
returns-then-wide c =
    let wide = c in
    let row = wide in
    numbers_wide row.read_row-ending.ensures (sym wide.wide.ensures ∙ c.if-wide.true)

pub returns : goal.returns
returns c =
    let wide = c in
    let row = wide in
    numbers_read row.read_row-ending.ensures (sym wide.wide.ensures ∙ c.if-wide.false)

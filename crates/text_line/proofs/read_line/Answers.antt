-- `text_line::read_line` meets its contract: the letter says which row to read, and without one of the four there is no record.
use Rattle.std.proofs.Common.{sym, ap}
use Rattle.text_line.specs.Reading.{letter, many, form_of, LineRead, line_ended, line_got, line_other}
use Rattle.text_line.specs.declared.Sort.TheVariants.{Vertex, Edge, Triangle, Seam}
use Rattle.text_line.proofs.read_line.Goals as goal

pub returns-in_err-next : goal.returns-in_err-next
unfolding letter many form_of line_ended
returns-in_err-next c =
    rw c.from_residual.ensures
    (line_got Vertex c.requires.at_in_bounds c.if-letter-eq118.true c.read_row.ensures (ap (line_ended Vertex) (sym c.in_err-next.was)))

pub returns-then-letter-eq118 : goal.returns-then-letter-eq118
unfolding letter many form_of line_ended
returns-then-letter-eq118 c =
    line_got Vertex c.requires.at_in_bounds c.if-letter-eq118.true c.read_row.ensures (ap (line_ended Vertex) (sym c.in_ok-next.was))

pub returns-in_err-next-2 : goal.returns-in_err-next-2
unfolding letter many form_of line_ended
returns-in_err-next-2 c =
    rw c.from_residual-in_err-next-2.ensures
    (line_got Edge c.requires.at_in_bounds c.if-letter-eq101.true c.read_row-then-letter-eq101.ensures (ap (line_ended Edge) (sym c.in_err-next-2.was)))

pub returns-then-letter-eq101 : goal.returns-then-letter-eq101
unfolding letter many form_of line_ended
returns-then-letter-eq101 c =
    line_got Edge c.requires.at_in_bounds c.if-letter-eq101.true c.read_row-then-letter-eq101.ensures (ap (line_ended Edge) (sym c.in_ok-next-2.was))

pub returns-in_err-next-3 : goal.returns-in_err-next-3
unfolding letter many form_of line_ended
returns-in_err-next-3 c =
    rw c.from_residual-in_err-next-3.ensures
    (line_got Triangle c.requires.at_in_bounds c.if-letter-eq116.true c.read_row-then-letter-eq116.ensures (ap (line_ended Triangle) (sym c.in_err-next-3.was)))

pub returns-then-letter-eq116 : goal.returns-then-letter-eq116
unfolding letter many form_of line_ended
returns-then-letter-eq116 c =
    line_got Triangle c.requires.at_in_bounds c.if-letter-eq116.true c.read_row-then-letter-eq116.ensures (ap (line_ended Triangle) (sym c.in_ok-next-3.was))

pub returns-in_err-next-4 : goal.returns-in_err-next-4
unfolding letter many form_of line_ended
returns-in_err-next-4 c =
    rw c.from_residual-in_err-next-4.ensures
    (line_got Seam c.requires.at_in_bounds c.if-letter-eq119.true c.read_row-then-letter-eq119.ensures (ap (line_ended Seam) (sym c.in_err-next-4.was)))

pub returns-then-letter-eq119 : goal.returns-then-letter-eq119
unfolding letter many form_of line_ended
returns-then-letter-eq119 c =
    line_got Seam c.requires.at_in_bounds c.if-letter-eq119.true c.read_row-then-letter-eq119.ensures (ap (line_ended Seam) (sym c.in_ok-next-4.was))

pub returns : goal.returns
unfolding LineRead
returns c = line_other _ _ c.if-letter-eq118.false c.if-letter-eq101.false c.if-letter-eq116.false c.if-letter-eq119.false

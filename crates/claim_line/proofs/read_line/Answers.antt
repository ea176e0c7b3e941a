-- The word says which kind of claim it is, and without one of the two there is no claim.
use Rattle.std.proofs.Common.{sym, ap}
use Rattle.claim_line.specs.Reading.{LineRead, line_ended, pt_word, ee_word, line_got, line_other}
use Rattle.meaning.specs.declared.Kind.TheVariants.{PointTriangle, EdgeEdge}
use Rattle.claim_line.proofs.read_line.Goals as goal

pub returns-in_err-next : goal.returns-in_err-next
unfolding line_ended
returns-in_err-next c =
    rw c.from_residual.ensures
    (line_got _ _ PointTriangle _ _ _ (pt_word _ _ c.byte_at-first.ensures c.byte_at-second.ensures c.if-first-second.true)
    c.read_numbers.ensures (ap (line_ended PointTriangle) (sym c.in_err-next.was)))

pub returns-then-first-second : goal.returns-then-first-second
unfolding line_ended
returns-then-first-second c =
    line_got _ _ PointTriangle _ _ _ (pt_word _ _ c.byte_at-first.ensures c.byte_at-second.ensures c.if-first-second.true)
    c.read_numbers.ensures (ap (line_ended PointTriangle) (sym c.in_ok-next.was))

pub returns-in_err-next-2 : goal.returns-in_err-next-2
unfolding line_ended
returns-in_err-next-2 c =
    rw c.from_residual-in_err-next-2.ensures
    (line_got _ _ EdgeEdge _ _ _ (ee_word _ _ c.byte_at-first.ensures c.byte_at-second.ensures c.if-first-second-2.true)
    c.read_numbers-then-first-second-2.ensures (ap (line_ended EdgeEdge) (sym c.in_err-next-2.was)))

pub returns-then-first-second-2 : goal.returns-then-first-second-2
unfolding line_ended
returns-then-first-second-2 c =
    line_got _ _ EdgeEdge _ _ _ (ee_word _ _ c.byte_at-first.ensures c.byte_at-second.ensures c.if-first-second-2.true)
    c.read_numbers-then-first-second-2.ensures (ap (line_ended EdgeEdge) (sym c.in_ok-next-2.was))

pub returns : goal.returns
unfolding LineRead
returns c = line_other _ _ c.byte_at-first.ensures c.byte_at-second.ensures c.if-first-second.false c.if-first-second-2.false

use borrow.Author.Rules.{rules}
use native.Mathlib.Omega.{arith}
use Rattle.decimals.specs.Digits.{digits}
use Rattle.sequences.specs.Wrote.{wrote_then}
use Rattle.report_words.specs.Lines.{wrote_as}
use Rattle.report_words.specs.ContactLines.{digits_length_u32, three_shares, two_shares}
use Rattle.report_words.proofs.contact_lines.put_shares.Goals as goal

pub put_number-next-requires-2 : goal.put_number-next-requires-2
put_number-next-requires-2 c =
    let m = c.args.m in
    let sized = c.struct_known-2-1.given in
    omega (arith, digits_length_u32 m.first sized.1.1.0.fits)

pub put_number-next-requires-in-PointTriangle : goal.put_number-next-requires-in-PointTriangle
put_number-next-requires-in-PointTriangle c =
    let m = c.args.m in
    let sized = c.struct_known-in-PointTriangle-1.given in
    omega (arith, digits_length_u32 m.first sized.1.1.0.fits, digits_length_u32 m.second sized.1.1.1.0.fits)

pub returns-in-PointTriangle : goal.returns-in-PointTriangle
returns-in-PointTriangle c = wrote_as (three_shares c.args.m c.in-PointTriangle.is) (wrote_then (wrote_then c.put_number-next.ensures c.put_number-next-2.ensures) c.put_number-next-in-PointTriangle.ensures)

pub returns-in_default : goal.returns-in_default
returns-in_default c = wrote_as (two_shares c.args.m c.in_default.is) (wrote_then c.put_number-next.ensures c.put_number-next-2.ensures)

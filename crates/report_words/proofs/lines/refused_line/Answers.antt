use borrow.Author.Rules.{rules}
use native.Mathlib.Omega.{arith}
use Rattle.decimals.specs.Digits.{digits}
use Rattle.decimals.specs.Value.{digits_length_u64}
use Rattle.sequences.specs.Wrote.{wrote_then}
use Rattle.meaning.specs.Report.{refused_word}
use Rattle.report_words.specs.Lines.{wrote_as, two_fields}
use Rattle.report_words.proofs.lines.refused_line.Goals as goal

-- src/lines.rt:71:5
pub put_number-next-requires-2 : goal.put_number-next-requires-2
put_number-next-requires-2 c = omega (arith, digits_length_u64 c.args.number c.ranges.number.fits)

-- src/lines.rt:72:5
pub put_byte-requires : goal.put_byte-requires
put_byte-requires c = omega (arith, digits_length_u64 c.args.number c.ranges.number.fits, digits_length_u64 c.args.third c.ranges.third.fits)

-- src/lines.rt:65:1
pub returns : goal.returns
returns c =
    let a = c.args in
    wrote_as (two_fields refused_word (digits a.number) (digits a.third))
    (wrote_then (wrote_then (wrote_then c.put_word-next.ensures c.put_number-next.ensures)
    c.put_number-next-2.ensures) c.put_byte.ensures)

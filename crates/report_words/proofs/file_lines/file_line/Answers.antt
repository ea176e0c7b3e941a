-- The line is its parts, one behind the other.
use borrow.Author.Rules.{rules}
use native.Mathlib.Omega.{arith}
use Rattle.decimals.specs.Digits.{digits}
use Rattle.decimals.specs.Value.{digits_length_u64}
use Rattle.sequences.specs.Wrote.{wrote_then}
use Rattle.meaning.specs.Report.{refused_word}
use Rattle.meaning.specs.ObjPrinted.{file_word}
use Rattle.report_words.specs.Lines.{wrote_as, three_fields, file_short}
use Rattle.report_words.proofs.file_lines.file_line.Goals as goal

pub put_number-next-requires-2 : goal.put_number-next-requires-2
put_number-next-requires-2 c = omega (arith, digits_length_u64 c.args.number c.ranges.number.fits)

pub put_byte-next-requires : goal.put_byte-next-requires
put_byte-next-requires c = omega (arith, digits_length_u64 c.args.number c.ranges.number.fits, digits_length_u64 c.args.line c.ranges.line.fits)

pub put_file-next-requires : goal.put_file-next-requires
put_file-next-requires c = omega (arith, digits_length_u64 c.args.number c.ranges.number.fits, digits_length_u64 c.args.line c.ranges.line.fits)

pub put_byte-requires : goal.put_byte-requires
put_byte-requires c = omega (arith, digits_length_u64 c.args.number c.ranges.number.fits, digits_length_u64 c.args.line c.ranges.line.fits, file_short c.args.file)

pub returns : goal.returns
returns c =
    let a = c.args in
    wrote_as (three_fields refused_word (digits a.number) (digits a.line) (file_word a.file))
    (wrote_then (wrote_then (wrote_then (wrote_then (wrote_then c.put_word-next.ensures c.put_number-next.ensures) c.put_number-next-2.ensures) c.put_byte-next.ensures) c.put_file-next.ensures) c.put_byte.ensures)

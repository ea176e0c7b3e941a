use borrow.Author.Rules.{rules}
use native.Mathlib.Omega.{arith}
use Rattle.decimals.specs.Digits.{digits}
use Rattle.decimals.specs.Value.{digits_length_u64}
use Rattle.sequences.specs.Wrote.{wrote_then}
use Rattle.meaning.specs.Report.{total_word}
use Rattle.report_words.specs.Lines.{wrote_as, two_fields}
use Rattle.report_words.proofs.contact_lines.contact_total.Goals as goal

pub put_number-next-requires-2 : goal.put_number-next-requires-2
put_number-next-requires-2 c =
    let start = c in
    omega (arith, digits_length_u64 start.args.listed start.ranges.listed.fits)

pub put_byte-requires : goal.put_byte-requires
put_byte-requires c =
    let start = c in
    omega (arith, digits_length_u64 start.args.listed start.ranges.listed.fits, digits_length_u64 start.args.hits start.ranges.hits.fits)

pub returns : goal.returns
returns c =
    let a = c.args in
    wrote_as (two_fields total_word (digits a.listed) (digits a.hits))
    (wrote_then (wrote_then (wrote_then c.put_word-next.ensures c.put_number-next.ensures) c.put_number-next-2.ensures) c.put_byte.ensures)

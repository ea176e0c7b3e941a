use borrow.Author.Rules.{rules}
use native.Mathlib.Omega.{arith}
use Rattle.decimals.specs.Digits.{digits}
use Rattle.decimals.specs.Value.{digits_length_u64}
use Rattle.sequences.specs.Wrote.{wrote_then}
use Rattle.meaning.specs.Report.{total_word}
use Rattle.report_words.specs.Lines.{wrote_as, five_fields}
use Rattle.report_words.proofs.lines.total_line.Goals as goal

pub put_number-next-requires-2 : goal.put_number-next-requires-2
put_number-next-requires-2 c = omega (arith, digits_length_u64 c.args.listed c.ranges.listed.fits)

pub put_number-next-requires-3 : goal.put_number-next-requires-3
put_number-next-requires-3 c = omega (arith, digits_length_u64 c.args.listed c.ranges.listed.fits, digits_length_u64 c.args.hits c.ranges.hits.fits)

pub put_number-next-requires-4 : goal.put_number-next-requires-4
put_number-next-requires-4 c = omega (arith, digits_length_u64 c.args.listed c.ranges.listed.fits, digits_length_u64 c.args.hits c.ranges.hits.fits, digits_length_u64 c.args.misses c.ranges.misses.fits)

pub put_number-next-requires-5 : goal.put_number-next-requires-5
put_number-next-requires-5 c = omega (arith, digits_length_u64 c.args.listed c.ranges.listed.fits, digits_length_u64 c.args.hits c.ranges.hits.fits, digits_length_u64 c.args.misses c.ranges.misses.fits, digits_length_u64 c.args.touches c.ranges.touches.fits)

pub put_byte-requires : goal.put_byte-requires
put_byte-requires c = omega (arith, digits_length_u64 c.args.listed c.ranges.listed.fits, digits_length_u64 c.args.hits c.ranges.hits.fits, digits_length_u64 c.args.misses c.ranges.misses.fits, digits_length_u64 c.args.touches c.ranges.touches.fits, digits_length_u64 c.args.aparts c.ranges.aparts.fits)

pub returns : goal.returns
returns c =
    let a = c.args in
    wrote_as (five_fields total_word (digits a.listed) (digits a.hits) (digits a.misses) (digits a.touches) (digits a.aparts))
    (wrote_then (wrote_then (wrote_then (wrote_then (wrote_then (wrote_then c.put_word-next.ensures
    c.put_number-next.ensures)
    c.put_number-next-2.ensures)
    c.put_number-next-3.ensures)
    c.put_number-next-4.ensures)
    c.put_number-next-5.ensures)
    c.put_byte.ensures)

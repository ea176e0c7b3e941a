use borrow.Author.Rules.{rules}
use native.Mathlib.Omega.{arith}
use Rattle.decimals.specs.Digits.{digits}
use Rattle.decimals.specs.Value.{digits_length_u64}
use Rattle.sequences.specs.Wrote.{wrote_then}
use Rattle.meaning.specs.Report.{kind_word, verdict_word}
use Rattle.report_words.specs.Lines.{wrote_as, three_fields, kind_short, verdict_short}
use Rattle.report_words.proofs.lines.pair_line.Goals as goal

-- src/lines.rt:44:5
pub put_number-next-requires : goal.put_number-next-requires
put_number-next-requires c = omega (arith, kind_short c.args.kind)

-- src/lines.rt:45:5
pub put_number-next-requires-2 : goal.put_number-next-requires-2
put_number-next-requires-2 c = omega (arith, kind_short c.args.kind, digits_length_u64 c.args.first c.ranges.first.fits)

-- src/lines.rt:46:5
pub put_byte-next-requires : goal.put_byte-next-requires
put_byte-next-requires c = omega (arith, kind_short c.args.kind, digits_length_u64 c.args.first c.ranges.first.fits, digits_length_u64 c.args.second c.ranges.second.fits)

-- src/lines.rt:47:5
pub put_verdict-next-requires : goal.put_verdict-next-requires
put_verdict-next-requires c = omega (arith, kind_short c.args.kind, digits_length_u64 c.args.first c.ranges.first.fits, digits_length_u64 c.args.second c.ranges.second.fits)

-- src/lines.rt:48:5
pub put_byte-requires : goal.put_byte-requires
put_byte-requires c = omega (arith, kind_short c.args.kind, digits_length_u64 c.args.first c.ranges.first.fits, digits_length_u64 c.args.second c.ranges.second.fits, verdict_short c.args.verdict)

-- src/lines.rt:39:1
pub returns : goal.returns
returns c =
    let a = c.args in
    wrote_as (three_fields (kind_word a.kind) (digits a.first) (digits a.second) (verdict_word a.verdict))
    (wrote_then (wrote_then (wrote_then (wrote_then (wrote_then c.put_kind-next.ensures c.put_number-next.ensures)
    c.put_number-next-2.ensures) c.put_byte-next.ensures) c.put_verdict-next.ensures) c.put_byte.ensures)

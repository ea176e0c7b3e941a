use native.Mathlib.Omega.{arith}
use Rattle.decimals.specs.Value.{digits_length_u64}
use Rattle.sequences.specs.Wrote.{wrote_then}
use Rattle.report_words.specs.Lines.{wrote_as}
use Rattle.series_report.specs.Lines.{number_parts, number_short}
use Rattle.series_report.proofs.lines.number_line.Goals as goal

pub put_byte-requires : goal.put_byte-requires
put_byte-requires c =
    let start = c in
    omega (arith, digits_length_u64 start.args.n start.ranges.n.fits)

pub returns : goal.returns
returns c =
    let start = c in
    let a = start.args in
    let w = wrote_as (number_parts a.word.now a.n)
    (wrote_then (wrote_then c.put_word-next.ensures c.put_number-next.ensures) c.put_byte.ensures) in
    (w, omega (arith, w.place, number_short a.word.now a.n start.ranges.n.fits))

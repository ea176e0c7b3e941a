use native.Mathlib.Omega.{arith}
use Rattle.decimals.specs.Value.{digits_length_u64}
use Rattle.sequences.specs.Wrote.{wrote_then}
use Rattle.meaning.specs.List.{pair}
use Rattle.meaning.specs.Series.{hit_at}
use Rattle.report_words.specs.Lines.{wrote_as}
use Rattle.series_report.specs.Lines.{pair_short, hit_parts, hit_short}
use Rattle.series_report.proofs.lines.hit_line.Goals as goal

pub put_pair-next-requires : goal.put_pair-next-requires
put_pair-next-requires c =
    let start = c in
    omega (arith, digits_length_u64 start.args.step start.ranges.step.fits)

pub put_byte-requires : goal.put_byte-requires
put_byte-requires c =
    let start = c in
    omega (arith, digits_length_u64 start.args.step start.ranges.step.fits, pair_short (pair start.args.kind start.args.first start.args.second) start.ranges.first.fits start.ranges.second.fits)

pub returns : goal.returns
returns c =
    let start = c in
    let a = start.args in
    let h = hit_at a.step (pair a.kind a.first a.second) in
    let w = wrote_as (hit_parts h)
    (wrote_then (wrote_then (wrote_then c.put_word-next.ensures c.put_number-next.ensures) c.put_pair-next.ensures) c.put_byte.ensures) in
    (w, omega (arith, w.place, hit_short h start.ranges.step.fits start.ranges.first.fits start.ranges.second.fits))

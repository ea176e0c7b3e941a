use native.Mathlib.Omega.{arith}
use Rattle.decimals.specs.Value.{digits_length_u64}
use Rattle.sequences.specs.Wrote.{wrote_then}
use Rattle.meaning.specs.List.{pair}
use Rattle.report_words.specs.Lines.{wrote_as, kind_short}
use Rattle.series_report.specs.Lines.{pair_parts}
use Rattle.series_report.proofs.lines.put_pair.Goals as goal

pub put_number-next-requires : goal.put_number-next-requires
put_number-next-requires c =
    let start = c in
    omega (arith, kind_short start.args.kind)

pub put_number-requires : goal.put_number-requires
put_number-requires c =
    let start = c in
    omega (arith, kind_short start.args.kind, digits_length_u64 start.args.first start.ranges.first.fits)

pub returns : goal.returns
returns c =
    let a = c.args in
    wrote_as (pair_parts (pair a.kind a.first a.second))
    (wrote_then (wrote_then (wrote_then c.put_byte-next.ensures c.put_kind-next.ensures) c.put_number-next.ensures) c.put_number.ensures)

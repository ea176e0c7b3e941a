-- The lines of the log, the count of later hits, the totals and the first step, one behind the other.
use native.Mathlib.Omega.{arith}
use Rattle.sequences.specs.Wrote.{wrote_then}
use Rattle.meaning.specs.Report.{total_word}
use Rattle.meaning.specs.SeriesAnswers.{told_says}
use Rattle.report_words.specs.Lines.{wrote_as}
use Rattle.series_report.specs.Lines.{total_short, told_parts}
use Rattle.series_report.proofs.told_lines.Goals as goal

pub number_line-requires : goal.number_line-requires
number_line-requires c =
    let start = c in
    let t = start.args.told in
    let log = c.log_lines-next.ensures in
    let later = c.number_line-next.ensures in
    let total = c.total_line-next.ensures in
    let g = start.well_formed.0.1.1.1 in
    omega (
      arith,
      start.requires,
      log.0.same,
      log.1,
      later.0.same,
      later.1,
      total.same,
      total.place,
      total_short total_word t.listed t.hits t.misses t.touches t.aparts g.0.1 g.1.0.1 g.1.1.0.1 g.1.1.1.0.1 g.1.1.1.1.0.1,
    )

pub returns : goal.returns
returns c =
    wrote_as (told_parts (told_says c.args.told))
    (wrote_then (wrote_then (wrote_then c.log_lines-next.ensures.0 c.number_line-next.ensures.0) c.total_line-next.ensures) c.number_line.ensures.0)

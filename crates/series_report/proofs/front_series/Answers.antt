use native.Mathlib.Omega.{arith}
use mathlib.Core.Path.{sym}
use lib.Seq.{length-take-le}
use Rattle.series_report.specs.Whole.{series_of_whole, series_of_full}
use Rattle.series_report.proofs.front_series.Goals as goal

pub slice_bounds-write_series-end : goal.slice_bounds-write_series-end
slice_bounds-write_series-end c = sym (length-take-le _ _ (omega (arith, c.if-count-read.true)))

pub returns-then-count-read : goal.returns-then-count-read
returns-then-count-read c = series_of_whole c.if-count-read.true c.write_series.ensures

pub returns : goal.returns
returns c = series_of_full c.requires (omega (arith, c.if-count-read.false)) c.refused_line.ensures

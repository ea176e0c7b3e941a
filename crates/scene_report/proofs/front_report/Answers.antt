use native.Mathlib.Omega.{arith}
use mathlib.Core.Path.{sym}
use lib.Seq.{length-take-le}
use Rattle.scene_report.specs.ReadSoFar.{report_of_whole, report_of_full}
use Rattle.scene_report.proofs.front_report.Goals as goal

-- src/lib.rt:57:29
pub slice_bounds-write_report-end : goal.slice_bounds-write_report-end
slice_bounds-write_report-end c = sym (length-take-le _ _ (omega (arith, c.if-count-read.true)))

-- src/lib.rt:57:9
pub returns-then-count-read : goal.returns-then-count-read
returns-then-count-read c = report_of_whole c.if-count-read.true c.write_report.ensures

-- src/lib.rt:52:1
pub returns : goal.returns
returns c = report_of_full c.requires (omega (arith, c.if-count-read.false)) c.refused_line.ensures

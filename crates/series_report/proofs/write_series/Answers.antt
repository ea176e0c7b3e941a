-- The call's answer, printed: its buffers are long enough, and each step has room for 3,072 pairs.
use mathlib.Core.Path.{refl}
use Rattle.series_report.specs.FromCall.{called_reported}
use Rattle.series_report.proofs.write_series.Goals as goal

pub returns : goal.returns
returns c = called_reported refl refl c.tell_series-all.ensures.called c.answer_lines.ensures

-- `tell_all`: the rows of points, then those of edges.
use Rattle.series_step.specs.Rows.{rows_all}
use Rattle.series_step.proofs.tell_all.Goals as goal

pub returns : goal.returns
returns c = rows_all c.tell_rows-points.ensures c.tell_rows.ensures

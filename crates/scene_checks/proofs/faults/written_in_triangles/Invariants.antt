-- Row by row.
use Rattle.std.proofs.Common.{◌*◌}
use Rattle.scene_checks.specs.InRows.{row_triangles, RowsDone}
use Rattle.scene_checks.proofs.faults.written_in_triangles.Given as goal

abbrev pub invariant-loop-row : goal.invariant-loop-row
invariant-loop-row l = RowsDone l.triangles l.found (row_triangles * l.row)

-- `tell_rows`: the rows passed are told.
use Rattle.sequences.specs.Gather.{gather}
use Rattle.scene_seams.specs.Alone.{tabled}
use Rattle.list_candidates.specs.Rows.{row_of}
use Rattle.series_step.specs.Rows.{TellsPairs}
use Rattle.series_step.proofs.tell_rows.Given as goal

abbrev pub invariant-loop-i : goal.invariant-loop-i
invariant-loop-i l = TellsPairs (tabled l.positions l.edges l.triangles l.stands) l.step (gather (row_of (tabled l.positions l.edges l.triangles l.stands) l.kind) 0 l.i) l.initial.next l.next

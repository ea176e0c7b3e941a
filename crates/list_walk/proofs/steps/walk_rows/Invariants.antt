-- The rows passed are walked, and their tests are counted.
use Rattle.std.proofs.Common.{◌≡◌}
use Rattle.sequences.specs.Gather.{sum}
use Rattle.scene_seams.specs.Alone.{tabled}
use Rattle.list_entries.specs.UpTo.{Walking}
use Rattle.list_candidates.specs.Rows.{row_of}
use Rattle.list_walk.specs.Testing.{tests_of_row}
use Rattle.list_walk.proofs.steps.walk_rows.Given as goal

abbrev pub invariant-loop-i : goal.invariant-loop-i
invariant-loop-i l = record {
  walked : Walking (row_of (tabled l.positions l.edges l.triangles l.stands) l.kind) l.most l.initial.list l.from 0 l.list l.k l.i;
  tested : l.tests ≡ sum (tests_of_row (tabled l.positions l.edges l.triangles l.stands) l.kind) 0 l.i;
}

-- The candidates passed are walked.
use Rattle.scene_seams.specs.Alone.{tabled}
use Rattle.list_entries.specs.UpTo.{Walking}
use Rattle.list_candidates.specs.Rows.{candidate}
use Rattle.list_walk.proofs.steps.walk_stretch.Given as goal

abbrev pub invariant-loop-j : goal.invariant-loop-j
invariant-loop-j l = Walking (candidate (tabled l.positions l.edges l.triangles l.stands) l.kind l.i) l.most l.initial.list l.from l.first l.list l.k l.j

-- `hold_run`: the rows passed are held.
use Rattle.scene_seams.specs.Alone.{tabled}
use Rattle.near_runs.specs.Held.{Held}
use Rattle.near_runs.proofs.hold_run.Given as goal

abbrev pub invariant-loop-i : goal.invariant-loop-i
invariant-loop-i l = Held (tabled l.positions l.edges l.triangles l.stands) l.kind l.first l.i l.own

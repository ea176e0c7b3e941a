-- `enter_seconds`: what is entered, with what the places left have of the row, is all of it.
use Rattle.scene_seams.specs.Alone.{tabled}
use Rattle.mesh_entries.specs.Entering.{Entering}
use Rattle.mesh_runs.specs.Runs.{kind_entries}
use Rattle.mesh_runs.specs.Taken.{taken_left}
use Rattle.mesh_runs.proofs.enter_seconds.Given as goal

abbrev pub invariant-loop-second : goal.invariant-loop-second
invariant-loop-second l =
    Entering l.most l.initial.list l.at (kind_entries l.which (tabled l.positions l.edges l.triangles l.stands) l.kind l.i) l.list l.k
    (taken_left l.which (tabled l.positions l.edges l.triangles l.stands) l.kind l.i l.seconds l.count l.second-index)

-- `enter_sought`: what is entered, with what the places left have of the row, is all of it.
use Rattle.scene_seams.specs.Alone.{tabled}
use Rattle.mesh_entries.specs.Entering.{Entering}
use Rattle.mesh_runs.specs.Runs.{kind_entries}
use Rattle.mesh_runs.specs.Going.{sought_left}
use Rattle.mesh_runs.proofs.enter_sought.Given as goal

abbrev pub invariant-loop-place : goal.invariant-loop-place
invariant-loop-place l =
    Entering l.most l.initial.list l.at (kind_entries l.which (tabled l.positions l.edges l.triangles l.stands) l.kind l.i) l.list l.k
    (sought_left l.which (tabled l.positions l.edges l.triangles l.stands) l.kind l.i l.boxes l.base l.row l.from l.places l.count l.place-index)

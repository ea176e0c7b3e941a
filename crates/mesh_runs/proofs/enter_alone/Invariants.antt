-- `enter_alone`: the rows passed are entered.
use Rattle.scene_seams.specs.Alone.{tabled}
use Rattle.mesh_entries.specs.Entering.{EnteringUpTo}
use Rattle.mesh_runs.specs.Runs.{kind_entries}
use Rattle.mesh_runs.proofs.enter_alone.Given as goal

abbrev pub invariant-loop-i : goal.invariant-loop-i
invariant-loop-i l = EnteringUpTo (kind_entries l.which (tabled l.positions l.edges l.triangles l.stands) l.kind) l.most l.initial.list l.at l.first l.list l.k l.i

-- `walk_row`: what is entered, with what is left of the row, is all of it.
use native.Mathlib.Omega.{arith}
use Prim.Native.Nat.{◌+◌, ◌*◌, ◌-◌, ◌≤◌}
use Rattle.meaning.specs.MeshRows.{mesh_number, mesh_entries}
use Rattle.scene_seams.specs.Alone.{tabled}
use Rattle.mesh_tree.specs.Levels.{first_under}
use Rattle.mesh_walk.specs.Places.{found_there}
use Rattle.mesh_walk.specs.Steps.{row_meets}
use Rattle.mesh_entries.specs.Entering.{Entering, entering_place, entering_length}
use Rattle.mesh_rows.specs.Rows.{part_row, left_of, row_askable, row_starts, row_goes, row_ends, row_few}
use Rattle.mesh_rows.proofs.walk_row.Given as goal

abbrev pub invariant-loop-node : goal.invariant-loop-node
invariant-loop-node l =
    (l.level ≤ l.top)
    × Entering l.most l.initial.list l.at (mesh_entries (part_row l.which (tabled l.positions l.edges l.triangles l.stands) l.kind l.i)) l.list l.k
    (left_of mesh_number l.which (tabled l.positions l.edges l.triangles l.stands) l.kind l.i (row_meets l.boxes l.levels l.row) l.parts (first_under l.level l.node))

abbrev pub decreases-loop-node : goal.decreases-loop-node
decreases-loop-node l = 17 * (l.parts - first_under l.level l.node) + l.level

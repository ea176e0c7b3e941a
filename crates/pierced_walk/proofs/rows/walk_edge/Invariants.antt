-- `walk_edge`: what is entered, with what is left of the row, is all of it.
use Prim.Native.Nat.{◌+◌, ◌*◌, ◌-◌, ◌≤◌}
use Rattle.scene_seams.specs.Alone.{tabled}
use Rattle.meaning.specs.PiercedRows.{through_row}
use Rattle.mesh_tree.specs.Levels.{first_under}
use Rattle.mesh_walk.specs.Steps.{row_meets}
use Rattle.mesh_entries.specs.Entering.{Entering}
use Rattle.through_laws.specs.Listing.{entries_of}
use Rattle.pierced_walk.specs.Rows.{left_of}
use Rattle.pierced_walk.proofs.rows.walk_edge.Given as goal

abbrev pub invariant-loop-node : goal.invariant-loop-node
invariant-loop-node l =
    (l.level ≤ l.top)
    × Entering l.most l.initial.list l.at (entries_of l.frame (tabled l.positions l.edges l.triangles l.stands) (through_row l.frame (tabled l.positions l.edges l.triangles l.stands) l.i)) l.list l.k
    (left_of l.frame (tabled l.positions l.edges l.triangles l.stands) l.i (row_meets l.boxes l.levels l.row) l.parts (first_under l.level l.node))

abbrev pub decreases-loop-node : goal.decreases-loop-node
decreases-loop-node l = 17 * (l.parts - first_under l.level l.node) + l.level

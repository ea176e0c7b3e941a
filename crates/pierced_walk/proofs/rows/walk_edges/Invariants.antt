-- `walk_edges`: the rows passed are entered.
use Rattle.scene_seams.specs.Alone.{tabled}
use Rattle.meaning.specs.PiercedRows.{through_row}
use Rattle.mesh_entries.specs.Entering.{EnteringUpTo}
use Rattle.through_laws.specs.Listing.{entries_of}
use Rattle.pierced_walk.proofs.rows.walk_edges.Given as goal

abbrev pub invariant-loop-i : goal.invariant-loop-i
invariant-loop-i l =
    EnteringUpTo (λ e. entries_of l.frame (tabled l.positions l.edges l.triangles l.stands) (through_row l.frame (tabled l.positions l.edges l.triangles l.stands) e)) l.most l.initial.list 0 l.first l.list l.k l.i

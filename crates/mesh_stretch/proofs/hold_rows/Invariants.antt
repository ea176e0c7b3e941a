-- `hold_rows`: the blocks passed are counted, and held while all are.
use Prim.Native.Nat.{◌-◌, ◌≤◌, ◌<◌}
use mathlib.Core.Path.{◌≡◌}
use lib.ListN.{length}
use Rattle.scene_seams.specs.Alone.{tabled}
use Rattle.mesh_stretch.specs.Holding.{RowsHeld}
use Rattle.mesh_stretch.proofs.hold_rows.Given as goal

abbrev pub invariant-loop-row : goal.invariant-loop-row
invariant-loop-row l =
    (length l.places ≡ length l.initial.places)
    × (4096 ≡ length l.own)
    × ((0 < l.rows) × (l.rows ≤ 64))
    × ((l.first ≤ l.row) × (l.row ≤ l.end))
    × RowsHeld l.which (tabled l.positions l.edges l.triangles l.stands) l.first l.row l.places l.front l.so_far.count l.so_far.held

abbrev pub decreases-loop-row : goal.decreases-loop-row
decreases-loop-row l = l.end - l.row

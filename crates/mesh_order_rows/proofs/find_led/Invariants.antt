-- `find_led`: what is put down, with what is left of the row, is all of it.
use native.Mathlib.Omega.{arith}
use Prim.Native.Nat.{◌+◌, ◌*◌, ◌-◌, ◌≤◌, ◌<◌}
use lib.ListN.{length}
use Rattle.meaning.specs.StoredBoxes.{box_at}
use Rattle.scene_seams.specs.Alone.{tabled}
use Rattle.mesh_tree.specs.Levels.{nodes_at, first_under}
use Rattle.mesh_tree.specs.Grown.{fewer_nodes}
use Rattle.mesh_walk.specs.Places.{found_there}
use Rattle.mesh_walk.specs.Steps.{box_meets}
use Rattle.mesh_entries.specs.Entering.{Entering, entering_place, entering_length, entered_room}
use Rattle.mesh_order_rows.specs.Led.{led_rest, led_askable, led_starts, led_goes, led_ends, led_few}
use Rattle.mesh_order_rows.proofs.find_led.Given as goal

abbrev pub invariant-loop-node : goal.invariant-loop-node
invariant-loop-node l =
    (l.level ≤ l.top)
    × Entering (length l.initial.places) l.initial.places 0
    (led_rest l.which (tabled l.positions l.edges l.triangles l.stands) l.kind l.i l.order l.from (box_meets (box_at l.own 2) l.boxes l.levels) l.parts 0) l.places l.n
    (led_rest l.which (tabled l.positions l.edges l.triangles l.stands) l.kind l.i l.order l.from (box_meets (box_at l.own 2) l.boxes l.levels) l.parts (first_under l.level l.node))

abbrev pub decreases-loop-node : goal.decreases-loop-node
decreases-loop-node l = 17 * (l.parts - first_under l.level l.node) + l.level

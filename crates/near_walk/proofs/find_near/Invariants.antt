-- `find_near`: what is entered, with what is left of the places, is all of them.
use native.Mathlib.Omega.{arith}
use Prim.Native.Nat.{◌+◌, ◌*◌, ◌-◌, ◌≤◌}
use lib.ListN.{length}
use Rattle.scene_seams.specs.Alone.{tabled}
use Rattle.mesh_tree.specs.Levels.{first_under}
use Rattle.mesh_entries.specs.Entering.{Entering, entering_starts, entering_as, entering_place, entering_length, entering_ends, entered_room}
use Rattle.mesh_walk.specs.Places.{places_from, places_start, places_end, places_few, entering_next, found_there}
use Rattle.near_walk.specs.Nodes.{part_near}
use Rattle.near_walk.proofs.find_near.Given as goal

abbrev pub invariant-loop-node : goal.invariant-loop-node
invariant-loop-node l =
    (l.level ≤ l.top)
    × Entering (length l.initial.list) l.initial.list 0 (places_from (part_near l.own (tabled l.positions l.edges l.triangles l.stands) l.kind) l.parts l.from) l.list l.k
    (places_from (part_near l.own (tabled l.positions l.edges l.triangles l.stands) l.kind) l.parts (first_under l.level l.node))

abbrev pub decreases-loop-node : goal.decreases-loop-node
decreases-loop-node l = 17 * (l.parts - first_under l.level l.node) + l.level

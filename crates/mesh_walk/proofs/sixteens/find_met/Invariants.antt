-- `find_met`: what is put down, with what is left of the places, is all of them.
use Prim.Native.Nat.{◌+◌, ◌*◌, ◌-◌, ◌≤◌}
use Rattle.meaning.specs.StoredBoxes.{box_at}
use Rattle.mesh_tree.specs.Levels.{first_under}
use Rattle.mesh_walk.specs.Places.{places_from}
use Rattle.mesh_walk.specs.Steps.{box_meets}
use Rattle.mesh_walk.specs.PutDown.{Finding}
use Rattle.mesh_walk.proofs.sixteens.find_met.Given as goal

abbrev pub invariant-loop-node : goal.invariant-loop-node
invariant-loop-node l =
    (l.level ≤ l.top)
    × Finding l.initial.list (places_from (box_meets (box_at l.own l.row) l.boxes l.levels) l.parts l.from) l.list l.k
    (places_from (box_meets (box_at l.own l.row) l.boxes l.levels) l.parts (first_under l.level l.node))

abbrev pub decreases-loop-node : goal.decreases-loop-node
decreases-loop-node l = 17 * (l.parts - first_under l.level l.node) + l.level

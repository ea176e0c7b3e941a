-- `join_edges`: the boxes of the edges passed stand behind those of the vertices, which are as they were.
use Prim.Native.Nat.{◌+◌}
use Rattle.meaning.specs.Scene.{vertex_count}
use Rattle.scene_seams.specs.Alone.{only_positions, only_edges}
use Rattle.meaning.specs.StoredBoxes.{box_at, BoxesStand, KeptBehind}
use Rattle.mesh_boxes.specs.Led.{part_of}
use Rattle.mesh_boxes.specs.Joining.{joined_edge}
use Rattle.mesh_boxes.proofs.join_edges.Given as goal

abbrev pub invariant-loop-k : goal.invariant-loop-k
invariant-loop-k l =
    KeptBehind l.initial.boxes l.boxes (vertex_count (only_positions l.positions) + l.k)
    × BoxesStand l.boxes 0 (vertex_count (only_positions l.positions)) (box_at l.initial.boxes)
    × BoxesStand l.boxes (vertex_count (only_positions l.positions)) l.k (λ j. joined_edge (only_edges l.edges) (box_at l.initial.boxes) (part_of l.order j))

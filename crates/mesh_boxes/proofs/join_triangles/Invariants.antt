-- `join_triangles`: the boxes of the triangles passed stand behind those of the edges, and all before them are as they were.
use Prim.Native.Nat.{◌+◌}
use Rattle.meaning.specs.Scene.{vertex_count, edge_count}
use Rattle.scene_seams.specs.Alone.{only_positions, only_edges, only_triangles}
use Rattle.meaning.specs.StoredBoxes.{box_at, BoxesStand, KeptBehind}
use Rattle.mesh_boxes.specs.Led.{part_of}
use Rattle.mesh_boxes.specs.Joining.{joined_triangle}
use Rattle.mesh_boxes.proofs.join_triangles.Given as goal

abbrev pub invariant-loop-k : goal.invariant-loop-k
invariant-loop-k l =
    KeptBehind l.initial.boxes l.boxes (vertex_count (only_positions l.positions) + edge_count (only_edges l.edges) + l.k)
    × BoxesStand l.boxes 0 (vertex_count (only_positions l.positions) + edge_count (only_edges l.edges)) (box_at l.initial.boxes)
    × BoxesStand l.boxes (vertex_count (only_positions l.positions) + edge_count (only_edges l.edges)) l.k
    (λ j. joined_triangle (only_triangles l.triangles) (box_at l.initial.boxes) (part_of l.order j))

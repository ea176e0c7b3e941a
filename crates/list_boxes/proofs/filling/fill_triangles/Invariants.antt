-- The boxes of the triangles passed stand behind those of the edges.
use Rattle.std.proofs.Common.{◌+◌, []}
use Rattle.meaning.specs.Scene.{scene_of, vertex_count, edge_count}
use Rattle.scene_seams.specs.Alone.{only_positions}
use Rattle.meaning.specs.StoredBoxes.{BoxesStand, KeptBehind, VerticesIn, EdgesIn, triangle_box}
use Rattle.list_boxes.proofs.filling.fill_triangles.Given as goal

abbrev pub invariant-loop-j : goal.invariant-loop-j
invariant-loop-j l = record {
  kept : KeptBehind l.initial.boxes l.boxes (vertex_count (only_positions l.positions) + edge_count (scene_of l.positions l.edges [] []) + l.j);
  vertices : VerticesIn (only_positions l.positions) l.boxes;
  edges : EdgesIn (scene_of l.positions l.edges [] []) l.boxes;
  triangles : BoxesStand l.boxes (vertex_count (only_positions l.positions) + edge_count (scene_of l.positions l.edges [] [])) l.j (triangle_box (scene_of l.positions l.edges l.triangles []));
}

-- The boxes of the edges passed stand behind those of the vertices.
use Rattle.std.proofs.Common.{◌+◌, []}
use Rattle.meaning.specs.Scene.{scene_of, vertex_count}
use Rattle.scene_seams.specs.Alone.{only_positions}
use Rattle.meaning.specs.StoredBoxes.{BoxesStand, KeptBehind, VerticesIn, edge_box}
use Rattle.list_boxes.proofs.filling.fill_edges.Given as goal

abbrev pub invariant-loop-j : goal.invariant-loop-j
invariant-loop-j l = record {
  kept : KeptBehind l.initial.boxes l.boxes (vertex_count (only_positions l.positions) + l.j);
  vertices : VerticesIn (only_positions l.positions) l.boxes;
  edges : BoxesStand l.boxes (vertex_count (only_positions l.positions)) l.j (edge_box (scene_of l.positions l.edges [] []));
}

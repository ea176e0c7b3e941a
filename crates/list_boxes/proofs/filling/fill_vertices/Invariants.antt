-- The boxes of the vertices passed stand in the list.
use Rattle.scene_seams.specs.Alone.{only_positions}
use Rattle.meaning.specs.StoredBoxes.{BoxesStand, KeptBehind, vertex_box}
use Rattle.list_boxes.proofs.filling.fill_vertices.Given as goal

abbrev pub invariant-loop-v : goal.invariant-loop-v
invariant-loop-v l = record {
  kept : KeptBehind l.initial.boxes l.boxes l.v;
  vertices : BoxesStand l.boxes 0 l.v (vertex_box (only_positions l.positions));
}

-- `fill_vertices_at`: the boxes of the vertices passed stand in the list.
use Rattle.scene_seams.specs.Alone.{only_positions}
use Rattle.meaning.specs.StoredBoxes.{BoxesStand, KeptBehind}
use Rattle.frame_boxes.specs.Spots.{vertex_box_at}
use Rattle.frame_boxes.proofs.fill_vertices_at.Given as goal

abbrev pub invariant-loop-v : goal.invariant-loop-v
invariant-loop-v l = KeptBehind l.initial.boxes l.boxes l.v × BoxesStand l.boxes 0 l.v (vertex_box_at l.frame (only_positions l.positions))

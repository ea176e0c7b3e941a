-- `stale_vertices`: every vertex is tried in turn.
use Rattle.scene_seams.specs.Scanning.{Scanned}
use Rattle.meaning.specs.Scene.{vertex_count}
use Rattle.meaning.specs.StoredBoxes.{stale_vertex}
use Rattle.scene_seams.specs.Alone.{only_positions}
use Rattle.stored_look.proofs.stale_vertices.Given as goal

abbrev pub invariant-loop-v : goal.invariant-loop-v
invariant-loop-v l = Scanned (vertex_count (only_positions l.positions)) (stale_vertex (only_positions l.positions) l.boxes) l.found l.v

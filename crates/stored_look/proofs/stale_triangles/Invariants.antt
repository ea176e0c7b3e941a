-- `stale_triangles`: every triangle is tried in turn.
use Rattle.scene_seams.specs.Scanning.{Scanned}
use mathlib.Core.List.{[]}
use Rattle.meaning.specs.Scene.{scene_of, triangle_count}
use Rattle.meaning.specs.StoredBoxes.{stale_triangle}
use Rattle.stored_look.proofs.stale_triangles.Given as goal

abbrev pub invariant-loop-j : goal.invariant-loop-j
invariant-loop-j l = Scanned (triangle_count (scene_of l.positions l.edges l.triangles [])) (stale_triangle (scene_of l.positions l.edges l.triangles []) l.boxes) l.found l.j

-- `faults::repeated_in_triangles`: every triangle is tried in turn.
use Rattle.meaning.specs.Scene.{triangle_count, twice_in_triangle}
use Rattle.scene_seams.specs.Alone.{only_triangles, triangles_sewn}
use Rattle.scene_seams.specs.Scanning.{Scanned}
use Rattle.mesh_checks.proofs.faults.repeated_in_triangles.Given as goal

abbrev pub invariant-loop-j : goal.invariant-loop-j
invariant-loop-j l = Scanned (triangle_count (only_triangles l.triangles)) (twice_in_triangle (triangles_sewn l.triangles l.stands)) l.found l.j

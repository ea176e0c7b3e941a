-- Every triangle is tried in turn.
use Rattle.std.proofs.Common.{◌≡◌}
use Rattle.meaning.specs.Scene.{some_below, twice_in_triangle}
use Rattle.scene_seams.specs.Alone.{triangles_sewn}
use Rattle.scene_checks.proofs.faults.repeated_in_triangles.Given as goal

abbrev pub invariant-loop-j : goal.invariant-loop-j
invariant-loop-j l = l.found ≡ some_below l.j (twice_in_triangle (triangles_sewn l.triangles l.stands))

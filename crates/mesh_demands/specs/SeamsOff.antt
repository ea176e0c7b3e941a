-- Seams taken off: every end and corner is written as the vertex that it stands for, and no seam is left. A mesh whose seams are none that 15 refuses is
-- a part of itself written so, each vertex standing at the one that it stands for; so nothing is lost, and what is cut out of it needs no seams.
use Rattle.std.specs.Prelude.{[], map}
use Rattle.meaning.specs.Scene.{Scene, scene_of, counts_as}
use Rattle.mesh_demands.specs.Part.{Places}

abbrev pub seams_off : Scene → Scene
seams_off s = scene_of s.positions (map (counts_as s) s.edges) (map (counts_as s) s.triangles) []

-- a vertex stands at the one that it stands for; edges and triangles keep their places
abbrev pub stood_at : Scene → Places
stood_at s = record { vertex = counts_as s; edge = λ j. j; triangle = λ j. j }

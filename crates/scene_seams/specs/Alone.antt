-- A scene of which one list alone is given, or one list and a table of seams. A count is told by one list, an edge by the edges and the seams, a
-- triangle by the triangles and the seams: so what is said of such a scene is said, by computation, of every scene with these. Here too: the
-- scene of a call that was lent a table.
use Rattle.std.specs.Prelude.{ℕ, [], List, ℤ}
use Rattle.meaning.specs.Scene.{Scene, scene_of}
use Rattle.scene_seams.specs.Table.{seams_of}

abbrev pub only_positions : List ℤ → Scene
only_positions p = scene_of p [] [] []

abbrev pub only_edges : List ℕ → Scene
only_edges e = scene_of [] e [] []

abbrev pub only_triangles : List ℕ → Scene
only_triangles t = scene_of [] [] t []

abbrev pub only_table : List ℕ → Scene
only_table stands = scene_of [] [] [] (seams_of stands)

abbrev pub edges_sewn : List ℕ → List ℕ → Scene
edges_sewn e stands = scene_of [] e [] (seams_of stands)

abbrev pub triangles_sewn : List ℕ → List ℕ → Scene
triangles_sewn t stands = scene_of [] [] t (seams_of stands)

-- the scene whose seams are those of the table
abbrev pub tabled : List ℤ → List ℕ → List ℕ → List ℕ → Scene
tabled p e t stands = scene_of p e t (seams_of stands)

-- The cloth of the scenes shown: the corners of the triangle T of document 01, at rest, and vertices in the place of one of them.
use Rattle.std.specs.Prelude.{ℕ, List, [], ◌∷◌, ◌++◌, ℤ, pos}
use Rattle.whole.specs.Vector.{Vector}
use Rattle.meaning.specs.Text.{coordinates}
use Rattle.demands.specs.Table.{at}

abbrev pub resting : Vector → List ℤ
resting p = coordinates p p

abbrev pub o : Vector
o = at (pos 0) (pos 0) (pos 0)

abbrev pub p : Vector
p = at (pos 4) (pos 0) (pos 0)

abbrev pub q : Vector
q = at (pos 0) (pos 4) (pos 0)

-- T, and a vertex 3 in the place of its corner 1
abbrev pub four : List ℤ
four = resting o ++ resting p ++ resting q ++ resting p

-- and a vertex 4 in that place too
abbrev pub five : List ℤ
five = four ++ resting p

abbrev pub face : List ℕ
face = 0 ∷ 1 ∷ 2 ∷ []

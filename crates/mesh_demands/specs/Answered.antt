-- Pairs side by side make a scene that is accepted, where their vertices are in range: so the call for them is refused for nothing of the scene.
use Rattle.std.specs.Prelude.{ℕ, Bool}
use mathlib.Core.List.{List, [], ◌∷◌}
use Rattle.meaning.specs.Scene.{Scene}
use Rattle.meaning.specs.List.{Pair}
use Rattle.mesh_demands.specs.CutOut.{OneOf, InRange}
use Rattle.mesh_demands.specs.Alone.{alone, vertices_of}

-- ---- pairs side by side

-- the vertices of each are in range
unfoldable pub AllNear : ℕ → Scene → List Pair → Type 0
AllNear B s [] = Unit {0}
AllNear B s (x ∷ xs) = ((v : ℕ) → OneOf (vertices_of s x.kind x.first x.second) v → InRange B s v) × AllNear B s xs

-- Pairs of a mesh written alone, one behind the other, into one scene: the scene that the program for garments makes. It holds each of them, so a list of one's
-- own that asks for them has the mesh's words and contacts (Packed).
use Rattle.std.specs.Prelude.{ℕ, ◌+◌, ℤ}
use mathlib.Core.List.{List, [], ◌∷◌, ◌++◌, map}
use Rattle.std.proofs.Math.ListN.{length}
use Rattle.meaning.specs.Scene.{Scene, scene_of, vertex_count}
use Rattle.meaning.specs.List.{Pair, number}
use Rattle.meaning.specs.OwnList.{asked_for}
use Rattle.mesh_demands.specs.Part.{PartOf, in_whole}
use Rattle.mesh_demands.specs.CutOut.{place_in}
use Rattle.mesh_demands.specs.Alone.{Apart, alone, edges_of, triangles_of}
use Rattle.mesh_demands.specs.Packed.{own_pair}
use Rattle.mesh_demands.specs.Beside.{Before, moved_up}

abbrev pub alone_of : Scene → Pair → Scene
alone_of s x = alone s x.kind x.first x.second

abbrev pub edges_in : Pair → ℕ
edges_in x = length (edges_of x.kind x.first x.second)

abbrev pub triangles_in : Pair → ℕ
triangles_in x = length (triangles_of x.kind x.first x.second)

-- ---- the scene

unfoldable pub positions_of : Scene → List Pair → List ℤ
positions_of s [] = []
positions_of s (x ∷ xs) = (alone_of s x).positions ++ positions_of s xs

-- behind v vertices
unfoldable pub edges_from : Scene → ℕ → List Pair → List ℕ
edges_from s v [] = []
edges_from s v (x ∷ xs) = map (λ y. v + y) (alone_of s x).edges ++ edges_from s (v + 4) xs

unfoldable pub triangles_from : Scene → ℕ → List Pair → List ℕ
triangles_from s v [] = []
triangles_from s v (x ∷ xs) = map (λ y. v + y) (alone_of s x).triangles ++ triangles_from s (v + 4) xs

-- the entries that ask for them, behind v vertices, e edges and t triangles
unfoldable pub entries_from : Scene → (v e t : ℕ) → List Pair → List ℕ
entries_from s v e t [] = []
entries_from s v e t (x ∷ xs) = number (in_whole (moved_up v e t) (own_pair s x)) ∷ entries_from s (v + 4) (e + edges_in x) (t + triangles_in x) xs

abbrev pub together : Scene → List Pair → Scene
together s xs = scene_of (positions_of s xs) (edges_from s 0 xs) (triangles_from s 0 xs) []

abbrev pub entries_of : Scene → List Pair → List ℕ
entries_of s xs = entries_from s 0 0 0 xs

-- none of the pairs shares a vertex
unfoldable pub AllApart : Scene → List Pair → Type 0
AllApart s [] = Unit {0}
AllApart s (x ∷ xs) = Apart s x.kind x.first x.second × AllApart s xs

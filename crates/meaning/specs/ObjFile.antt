-- A Wavefront OBJ file (document 02, §3): its lines, the scene at rest that they make, and what may be wrong with a line.
use Rattle.std.specs.Prelude.{Bool, false, ◌&&◌, ◌||◌, List, [], ◌∷◌, ◌++◌, ◌≢◌, ℕ, ◌-◌, eqb, ℤ, pos, neg_ℤ}
use Rattle.whole.specs.Vector.{Vector}
use Rattle.sequences.specs.Pick.{pick}
use Rattle.meaning.specs.Scene.{Scene, scene_of, over_size}
use Rattle.meaning.specs.Refusals.{Check}
use Rattle.meaning.specs.Lines.{Grammar}
use Rattle.meaning.specs.Text.{vertex, triangle, scene_with, entry_checks, line_feed}
use Rattle.meaning.specs.ObjLine.{says}
use Rattle.meaning.specs.declared.Hundredths.{Hundredths}
use Rattle.meaning.specs.declared.ObjLine.{ObjLine}
use Rattle.meaning.specs.declared.ObjLine.TheVariants.{Skipped, Vertex, Face, Bad}

-- ---- edges of faces

-- the edge stands among these, either way round
unfoldable pub joined : ℕ → ℕ → List ℕ → Bool
joined a b [] = false
joined a b (x ∷ []) = false
joined a b (x ∷ y ∷ l) = (eqb x a && eqb y b) || (eqb x b && eqb y a) || joined a b l

-- each edge stands once, as it first appears
abbrev pub with_side : List ℕ → ℕ → ℕ → List ℕ
with_side l a b = pick (joined a b l) l (l ++ (a ∷ b ∷ []))

-- a face a b c gives edges a b, b c, c a
abbrev pub with_sides : List ℕ → ℕ → ℕ → ℕ → List ℕ
with_sides l a b c = with_side (with_side (with_side l a b) b c) c a

-- the edges of faces, three corners each
unfoldable pub edges_from : List ℕ → List ℕ → List ℕ
edges_from l [] = l
edges_from l (a ∷ []) = l
edges_from l (a ∷ b ∷ []) = l
edges_from l (a ∷ b ∷ c ∷ k) = edges_from (with_sides l a b c) k

abbrev pub edges_of : List ℕ → List ℕ
edges_of k = edges_from [] k

-- ---- the scene of a file: a vertex stands where it is at both times

abbrev pub signed : Hundredths → ℤ
signed h = pick h.minus (neg_ℤ (pos h.size)) (pos h.size)

abbrev pub place_at : Hundredths → Hundredths → Hundredths → Vector
place_at x y z = record { x = signed x; y = signed y; z = signed z }

-- vertices of a scene count from 0
abbrev pub face_added : Scene → ℕ → ℕ → ℕ → Scene
face_added s a b c =
    let t : Scene = scene_with s (triangle (a - 1) (b - 1) (c - 1)) in
    scene_of t.positions (with_sides t.edges (a - 1) (b - 1) (c - 1)) t.triangles t.seams

unfoldable pub scene_after : Scene → ObjLine → Scene
scene_after s Skipped = s
scene_after s (Vertex x y z) = scene_with s (vertex (place_at x y z) (place_at x y z))
scene_after s (Face a b c) = face_added s a b c
scene_after s Bad = s

-- ---- what may be wrong with a line

-- in the order of document 01: 10, 11 (one record more than its size), 2, 3, 4; then 11 also at the `f` line that brings edge 1,025
unfoldable pub line_checks : Scene → ObjLine → List Check
line_checks s Skipped = []
line_checks s (Vertex x y z) = entry_checks s (vertex (place_at x y z) (place_at x y z))
line_checks s (Face a b c) =
    entry_checks s (triangle (a - 1) (b - 1) (c - 1))
    ++ (record { number = 11; holds = over_size (face_added s a b c); carries = 0 } ∷ [])
line_checks s Bad = []

-- no byte of a line is the LF that ends it
unfoldable pub Unbroken : List ℕ → Type 0
Unbroken [] = Unit
Unbroken (b ∷ l) = (b ≢ line_feed) × Unbroken l

-- a record of a file is the bytes of a line that says something: many spell the same
pub record SaysSome (l : List ℕ) : Type 0 where
  pub unbroken : Unbroken l
  pub some : says l ≢ Bad

abbrev pub obj_lines : Grammar
obj_lines = record {
  State = Scene;
  Record = List ℕ;
  line = λ l. l ++ (line_feed ∷ []);
  Formed = λ s l. SaysSome l;
  checks = λ s l last. line_checks s (says l);
  after = λ s l. scene_after s (says l);
}

-- 'Space-time pieces' of document 01: a point at the start has time 0, at the end time 1; each moving part is cut into simplices.
use Rattle.std.specs.Prelude.{ℕ, zero, suc, ◌+◌, ◌*◌, ◌/◌, ◌%◌, min, max, List, [], ◌∷◌, ℤ, pos}
use Rattle.whole.specs.Vector.{Vector}
use Rattle.meaning.specs.Scene.{Scene, vector_at, ends_of, corners_of}
use Rattle.meaning.specs.declared.Ends.{Ends}
use Rattle.meaning.specs.declared.Corners.{Corners}
use Rattle.meaning.specs.declared.Kind.{Kind}
use Rattle.meaning.specs.declared.Kind.TheVariants.{PointTriangle, EdgeEdge}

-- a point of space-time
pub record Event : Type 0 where
  pub place : Vector
  pub time : ℤ

-- document 01 writes 1 for corner 1 at the start, and 1' for it at the end; ps are the positions of the scene
abbrev pub starting : List ℤ → ℕ → Event
starting ps v = record { place = vector_at ps (6 * v); time = pos 0 }

abbrev pub ending : List ℤ → ℕ → Event
ending ps v = record { place = vector_at ps (6 * v + 3); time = pos 1 }

-- p p'
abbrev pub moving_point : List ℤ → ℕ → List Event
moving_point ps p = starting ps p ∷ ending ps p ∷ []

-- piece A is 1 2 2', piece B is 1 1' 2'
unfoldable pub moving_edge : List ℤ → Ends → ℕ → List Event
moving_edge ps e zero = starting ps e.low ∷ starting ps e.high ∷ ending ps e.high ∷ []
moving_edge ps e (suc k) = starting ps e.low ∷ ending ps e.low ∷ ending ps e.high ∷ []

-- 1 2 3 3'; 1 2 2' 3'; 1 1' 2' 3'
unfoldable pub moving_triangle : List ℤ → Corners → ℕ → List Event
moving_triangle ps c zero =
    starting ps c.low ∷ starting ps c.middle ∷ starting ps c.high ∷ ending ps c.high ∷ []
moving_triangle ps c (suc zero) =
    starting ps c.low ∷ starting ps c.middle ∷ ending ps c.middle ∷ ending ps c.high ∷ []
moving_triangle ps c (suc (suc k)) =
    starting ps c.low ∷ ending ps c.low ∷ ending ps c.middle ∷ ending ps c.high ∷ []

-- six points in two simplices
pub record Piece : Type 0 where
  pub first : List Event
  pub second : List Event

-- a pt pair has pieces 0, 1, 2: the segment against each tetrahedron. An ee pair has pieces 0 to 3: AA, AB, BA, BB, the edge with
-- the lower place first
unfoldable pub piece_of : Scene → Kind → ℕ → ℕ → ℕ → Piece
piece_of s PointTriangle i j k = record { first = moving_point s.positions i; second = moving_triangle s.positions (corners_of s j) k }
piece_of s EdgeEdge i j k =
    record {
      first = moving_edge s.positions (ends_of s (min i j)) (k / 2);
      second = moving_edge s.positions (ends_of s (max i j)) (k % 2);
    }

unfoldable pub piece_count : Kind → ℕ
piece_count PointTriangle = 3
piece_count EdgeEdge = 4

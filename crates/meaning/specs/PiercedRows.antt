-- The edges of a mesh that are through a triangle at the start, or at the end, row by row: row i is edge i's. Asked are the edges and triangles
-- without a shared vertex whose boxes meet at that time; of these the pierced ones are listed.
use Rattle.std.specs.Prelude.{ℕ, ◌+◌, ◌*◌, ◌^◌, Bool, not, ◌&&◌, List, [], ◌∷◌, map, ◌≡◌, length, Result}
use Rattle.sequences.specs.Gather.{gather}
use Rattle.sequences.specs.Chosen.{chosen}
use Rattle.sequences.specs.Pick.{pick}
use Rattle.meaning.specs.Scene.{Scene, edge_count, triangle_count}
use Rattle.meaning.specs.Boxes.{Axis, x_axis, y_axis, z_axis, meet}
use Rattle.meaning.specs.Near.{edge_span_at, triangle_span_at}
use Rattle.meaning.specs.Refusals.{Answers, room_check, outcome_of}
use Rattle.meaning.specs.List.{leaves}
use Rattle.meaning.specs.Pierced.{PiercedIs, end_is_corner}
use Rattle.meaning.specs.MeshRows.{Lent, row_checks}
use Rattle.meaning.specs.declared.Frame.{Frame}
use Rattle.meaning.specs.declared.Refused.{Refused}

-- an edge and a triangle
pub record Through : Type 0 where
  pub edge : ℕ
  pub triangle : ℕ

-- an entry is one u64: 2^32 times the edge's place, plus the triangle's
abbrev pub through_number : Through → ℕ
through_number t = 2 ^ 32 * t.edge + t.triangle

module _ (f : Frame) (s : Scene) where
  abbrev pub meet_at : ℕ → ℕ → Axis → Bool
  meet_at i j a = meet (edge_span_at f s a i) (triangle_span_at f s a j)

  -- no vertex shared, and the boxes at that time meet on all three axes
  abbrev pub may_pierce : ℕ → ℕ → Bool
  may_pierce i j = not (end_is_corner s i j) && (meet_at i j x_axis && meet_at i j y_axis && meet_at i j z_axis)

  abbrev pub through_row : ℕ → List Through
  through_row i = chosen (may_pierce i) (λ j. record { edge = i; triangle = j }) 0 (triangle_count s)

  abbrev pub through_rows : ℕ → ℕ → List Through
  through_rows first end = gather through_row first end

  -- each has the answer that stands in its place
  unfoldable pub AllPierced : List Through → List Bool → Type 0
  AllPierced [] [] = Unit {0}
  AllPierced [] (b ∷ bs) = ⊥
  AllPierced (t ∷ ts) [] = ⊥
  AllPierced (t ∷ ts) (b ∷ bs) = PiercedIs s f t.edge t.triangle b × AllPierced ts bs

-- of a list those whose answer, which stands in the same place of another, is yes
unfoldable pub yes_of : {A : Type 0} → List Bool → List A → List A
yes_of [] l = []
yes_of (b ∷ bs) [] = []
yes_of (b ∷ bs) (x ∷ l) = pick b (x ∷ yes_of bs l) (yes_of bs l)

-- the entries of the pierced ones of rows `first` up to and without `end` are written in front of a list that held o and holds o'; 7 where there is
-- not room for all of them
pub record PiercedListed (f : Frame) (s : Scene) (l : Lent) (first end : ℕ) (o o' : List ℕ) (r : Result ℕ Refused) : Type 0 where
  pub answers : List Bool
  pub right : AllPierced f s (through_rows f s first end) answers
  pub answer : Answers (row_checks s l (edge_count s) first end (room_check (length o) (length (yes_of answers answers)) ∷ []))
      (λ n. n ≡ length (yes_of answers answers))
      (outcome_of r)
  pub list : o' ≡ leaves (outcome_of r) (map through_number (yes_of answers (through_rows f s first end))) o

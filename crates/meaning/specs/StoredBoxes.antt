-- Document 02, §8: 'Keep the boxes of all vertices, then edges, then triangles with the scene, six numbers each, the three lows first.' Where
-- they stand, what 12 and 17 say of them, and what is promised of the calls that fill them in and that make the list from them.
use Rattle.std.specs.Prelude.{ℕ, ◌+◌, ◌*◌, ◌≤◌, ◌<◌, min, Bool, ◌||◌, List, [], ◌∷◌, ◌++◌, map, ◌≡◌, ltb, ℤ, pos, length, get_or, Result}
use Rattle.meaning.specs.Limits.{vertex_limit, edge_limit, triangle_limit}
use Rattle.meaning.specs.Scene.{Scene, vertex_count, edge_count, triangle_count, some_below, differ}
use Rattle.meaning.specs.Boxes.{Span, Axis, x_axis, y_axis, z_axis, vertex_span, edge_span, triangle_span}
use Rattle.meaning.specs.Refusals.{Outcome, given, refused, Check, Answers, scene_checks, room_check, behind_twelve_and_eight, outcome_alone, outcome_of}
use Rattle.meaning.specs.List.{pairs, entries, room_of, leaves}
use Rattle.meaning.specs.SceneWords.{byte_of, AllSettled}
use Rattle.meaning.specs.Text.{TextIs, short_buffer, long_text, counts_told, filled}
use Rattle.meaning.specs.declared.Settled.{Settled}
use Rattle.meaning.specs.declared.Refusal.{Refusal}
use Rattle.meaning.specs.declared.Refused.{Refused}
use Rattle.meaning.specs.declared.SceneCounts.{SceneCounts}

-- ---- a box, and where it stands

pub record Box : Type 0 where
  pub x : Span
  pub y : Span
  pub z : Span

-- the box worked out from the positions: of a vertex, of an edge, of a triangle
abbrev pub box_of : (Axis → Span) → Box
box_of f = record { x = f x_axis; y = f y_axis; z = f z_axis }

abbrev pub vertex_box : Scene → ℕ → Box
vertex_box s v = box_of (λ a. vertex_span s a v)

abbrev pub edge_box : Scene → ℕ → Box
edge_box s j = box_of (λ a. edge_span s a j)

abbrev pub triangle_box : Scene → ℕ → Box
triangle_box s j = box_of (λ a. triangle_span s a j)

-- the low at a place, and the high three places behind it
abbrev pub span_at : List ℤ → ℕ → Span
span_at l i = record { low = get_or l i (pos 0); high = get_or l (i + 3) (pos 0) }

-- box k of a list: six numbers, the three lows first
abbrev pub box_at : List ℤ → ℕ → Box
box_at l k = record { x = span_at l (6 * k); y = span_at l (6 * k + 1); z = span_at l (6 * k + 2) }

-- all vertices, then edges, then triangles
abbrev pub edge_place : Scene → ℕ → ℕ
edge_place s j = vertex_count s + j

abbrev pub triangle_place : Scene → ℕ → ℕ
triangle_place s j = vertex_count s + edge_count s + j

-- from the box `first` on, so many boxes are the wanted ones
pub record BoxesStand (l : List ℤ) (first count : ℕ) (want : ℕ → Box) : Type 0 where
  pub at : (i : ℕ) → i < count → box_at l (first + i) ≡ want i

abbrev pub VerticesIn : Scene → List ℤ → Type 0
VerticesIn s l = BoxesStand l 0 (vertex_count s) (vertex_box s)

abbrev pub EdgesIn : Scene → List ℤ → Type 0
EdgesIn s l = BoxesStand l (vertex_count s) (edge_count s) (edge_box s)

abbrev pub TrianglesIn : Scene → List ℤ → Type 0
TrianglesIn s l = BoxesStand l (vertex_count s + edge_count s) (triangle_count s) (triangle_box s)

-- 'each stored box equals the one worked out from the positions'
pub record Boxed (s : Scene) (l : List ℤ) : Type 0 where
  pub vertices : VerticesIn s l
  pub edges : EdgesIn s l
  pub triangles : TrianglesIn s l
  pub room : 6 * (vertex_count s + edge_count s + triangle_count s) ≤ length l

-- behind the first n boxes the list is as it was
pub record KeptBehind (l l' : List ℤ) (n : ℕ) : Type 0 where
  pub at : (i : ℕ) → 6 * n ≤ i → get_or l' i (pos 0) ≡ get_or l i (pos 0)
  pub same : length l' ≡ length l

-- the boxes of a scene are filled in, and nothing else has changed
pub record Filled (s : Scene) (l l' : List ℤ) : Type 0 where
  pub boxed : Boxed s l'
  pub kept : KeptBehind l l' (vertex_count s + edge_count s + triangle_count s)

-- ---- refusals

-- six numbers for each part that a scene can have: 12,288
abbrev pub box_numbers : ℕ
box_numbers = 6 * (vertex_limit + edge_limit + triangle_limit)

-- 12: a box buffer under 12,288 numbers
abbrev pub short_boxes : List ℤ → Bool
short_boxes b = ltb (length b) box_numbers

-- a number of one box is not that of another
abbrev pub other_span : Span → Span → Bool
other_span p q = differ p.low q.low || differ p.high q.high

abbrev pub other_box : Box → Box → Bool
other_box p q = other_span p.x q.x || other_span p.y q.y || other_span p.z q.z

-- 17: a stored box isn't the one worked out. Every box of the scene is looked at, and no number behind them
abbrev pub stale_vertex : Scene → List ℤ → ℕ → Bool
stale_vertex s b v = other_box (box_at b v) (vertex_box s v)

abbrev pub stale_edge : Scene → List ℤ → ℕ → Bool
stale_edge s b j = other_box (box_at b (edge_place s j)) (edge_box s j)

abbrev pub stale_triangle : Scene → List ℤ → ℕ → Bool
stale_triangle s b j = other_box (box_at b (triangle_place s j)) (triangle_box s j)

abbrev pub stale_box : Scene → List ℤ → Bool
stale_box s b =
    some_below (vertex_count s) (stale_vertex s b) || some_below (edge_count s) (stale_edge s b)
    || some_below (triangle_count s) (stale_triangle s b)

-- 12 before 1, then the scene's
abbrev pub box_checks : Scene → List ℤ → List Check
box_checks s b = record { number = 12; holds = short_boxes b; carries = 0 } ∷ scene_checks s

-- 12, the scene's, 17
abbrev pub stale_checks : Scene → List ℤ → List Check
stale_checks s b = record { number = 17; holds = stale_box s b; carries = 0 } ∷ []

-- 12, the scene's, 17, then 7
abbrev pub stored_checks : Scene → List ℤ → ℕ → List Check
stored_checks s b room =
    record { number = 17; holds = stale_box s b; carries = 0 }
    ∷ room_check room (length (pairs s))
    ∷ []

-- ---- what is promised

-- a box buffer that held b and holds b': the boxes of the scene in front, the rest unchanged; after a refusal nothing changed
unfoldable pub FillsAfter : {A : Type 0} → Outcome A → Scene → List ℤ → List ℤ → Type 0
FillsAfter (given a) s b b' = Filled s b b'
FillsAfter (refused n c) s b b' = b' ≡ b

-- the boxes of a scene in slices are filled in
pub record BoxesFilled (s : Scene) (b b' : List ℤ) (r : Result (Unit {0}) Refusal) : Type 0 where
  pub answer : Answers (box_checks s b) (λ t. Unit {0}) (outcome_alone r)
  pub buffer : FillsAfter (outcome_alone r) s b b'

-- the pairs are counted from the stored boxes
abbrev pub CountedStored : Scene → List ℤ → Result ℕ Refused → Type 0
CountedStored s b r = Answers (box_checks s b ++ stale_checks s b) (λ n. n ≡ length (pairs s)) (outcome_of r)

-- the list is made from the stored boxes b, in a lent buffer that held o and holds o'
pub record ListedStored (s : Scene) (b : List ℤ) (o o' : List ℕ) (r : Result ℕ Refused) : Type 0 where
  pub answer : Answers (box_checks s b ++ stored_checks s b (room_of o)) (λ n. n ≡ length (pairs s)) (outcome_of r)
  pub buffer : o' ≡ leaves (outcome_of r) (entries (pairs s)) o

-- and each listed pair judged, in a buffer that held w and holds w'; the room is the smaller of the two
pub record SettledStored (s : Scene) (b : List ℤ) (o o' w w' : List ℕ) (r : Result ℕ Refused) : Type 0 where
  pub answer : Answers (box_checks s b ++ stored_checks s b (min (room_of o) (length w))) (λ n. n ≡ length (pairs s)) (outcome_of r)
  pub list : o' ≡ leaves (outcome_of r) (entries (pairs s)) o
  pub words : List Settled
  pub right : AllSettled s (pairs s) words
  pub bytes : w' ≡ leaves (outcome_of r) (map byte_of words) w

-- ---- a text read with its boxes

-- 12 for any of the lent buffers, 8, then the first faulty line
abbrev pub BoxedOutcome : List ℕ → Scene → List ℤ → Outcome Scene → Type 0
BoxedOutcome text lent b o =
    behind_twelve_and_eight (short_boxes b || short_buffer lent) (long_text text) (TextIs text) o

-- the boxes of the scene that was read
unfoldable pub FillsRead : Outcome Scene → List ℤ → List ℤ → Type 0
FillsRead (given s) b b' = Filled s b b'
FillsRead (refused n line) b b' = b' ≡ b

pub record BoxedRead (text : List ℕ) (lent left : Scene) (b b' : List ℤ) (r : Result SceneCounts Refused) : Type 0 where
  pub outcome : Outcome Scene
  pub right : BoxedOutcome text lent b outcome
  pub says : outcome_of r ≡ counts_told outcome
  pub leaves : left ≡ filled outcome lent
  pub boxes : FillsRead outcome b b'

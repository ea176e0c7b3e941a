-- The text of a series: a scene, then blocks, each a line `n` and one `v` line of three numbers per vertex. What may be wrong with a line, and
-- the room that each step asks for.
use Rattle.std.specs.Prelude.{ℕ, ◌/◌, Bool, true, false, cond, not, ◌||◌, ◌&&◌, List, [], ◌∷◌, ◌++◌, map, ◌≡◌, leb, ℤ, length}
use Rattle.whole.specs.Vector.{Vector}
use Rattle.sequences.specs.Wrote.{written}
use Rattle.meaning.specs.Limits.{digit_limit}
use Rattle.meaning.specs.Scene.{Scene, vertex_count, outside, broken_seam}
use Rattle.meaning.specs.Refusals.{Outcome, given, refused, Check, Answers, room_check, behind_twelve_and_eight}
use Rattle.meaning.specs.Lines as Lines
use Rattle.meaning.specs.Lines.{Grammar, after_all}
use Rattle.meaning.specs.List.{pairs, entries}
use Rattle.meaning.specs.Text.{Entry, vertex, edge, triangle, seam, line_of, numbers_of, numeral, further, Short, tab, line_feed, none, scene_with, entry_checks, short_buffer, long_text, in_front_of}
use Rattle.meaning.specs.Series.{Series, steps_of, last_step, Told, ToldRight}

-- ---- a record and its line

-- a record of a scene; `v` and three numbers, the next end of a vertex; `n`
pub data Item : Type 0 where
  of : Entry → Item
  ends : Vector → Item
  next : Item

abbrev pub three_of : Vector → List ℤ
three_of p = p.x ∷ p.y ∷ p.z ∷ []

unfoldable pub item_line : Item → List ℕ
item_line (of e) = line_of e
item_line (ends p) = (118 ∷ further tab (map numeral (three_of p))) ++ (line_feed ∷ [])
item_line next = 110 ∷ line_feed ∷ []

-- ---- the series so far

-- the scene before the first `n`; whether an `n` stands above; the blocks above the last `n`; and the numbers below it
pub record SoFar : Type 0 where
  pub scene : Scene
  pub begun : Bool
  pub blocks : List (List ℤ)
  pub block : List ℤ

abbrev pub nothing_yet : SoFar
nothing_yet = record { scene = none; begun = false; blocks = []; block = [] }

-- the block below the last `n` is the last
abbrev pub blocks_so_far : SoFar → List (List ℤ)
blocks_so_far x = cond x.begun (x.blocks ++ (x.block ∷ [])) []

abbrev pub series_so_far : SoFar → Series
series_so_far x = record { scene = x.scene; blocks = blocks_so_far x }

unfoldable pub with_item : SoFar → Item → SoFar
with_item x (of e) = record { scene = scene_with x.scene e; begun = x.begun; blocks = x.blocks; block = x.block }
with_item x (ends p) = record { scene = x.scene; begun = x.begun; blocks = x.blocks; block = x.block ++ three_of p }
with_item x next = record { scene = x.scene; begun = true; blocks = blocks_so_far x; block = [] }

-- ---- the form of a line goes by its place: in a block a `v` line has three numbers, before the first `n` six

unfoldable pub six_numbers : Entry → Bool
six_numbers (vertex p q) = true
six_numbers (edge a b) = false
six_numbers (triangle a b c) = false
six_numbers (seam i j) = false

unfoldable pub ItemFormed : SoFar → Item → Type 0
ItemFormed x (of e) = (x.begun && six_numbers e ≡ false) × Short digit_limit (numbers_of e)
ItemFormed x (ends p) = (x.begun ≡ true) × Short digit_limit (three_of p)
ItemFormed x next = Unit {0}

-- ---- what may be wrong with a line

-- the `v` lines of the block so far
abbrev pub lines_in_block : SoFar → ℕ
lines_in_block x = length x.block / 3

-- 13: a block with more or fewer `v` lines than vertices; at the first line too many, at the `n` that comes too soon, or at the last line
-- where the text ends too soon
abbrev pub block_full : SoFar → Bool
block_full x = leb (vertex_count x.scene) (lines_in_block x)

abbrev pub block_short : SoFar → Bool
block_short x = x.begun && not (block_full x)

unfoldable pub wrong_length : SoFar → Item → Bool → Bool
wrong_length x (of e) last = false
wrong_length x (ends p) last = block_full x || last && block_short (with_item x (ends p))
wrong_length x next last = block_short x || last && block_short (with_item x next)

-- 2: a coordinate outside its range
abbrev pub far_end : Vector → Bool
far_end p = outside p.x || outside p.y || outside p.z

-- 15: at the last `v` line of the block, a seam that breaks its rules in the step that the block makes
abbrev pub comes_apart_now : SoFar → Bool
comes_apart_now x = block_full x && broken_seam (last_step (series_so_far x))

-- in a line: 9 (it has no form), then 10 (any other record after an `n`), 11, 13, 2, 3, 15, 4
unfoldable pub item_checks : SoFar → Item → Bool → List Check
item_checks x (of e) last = record { number = 10; holds = x.begun; carries = 0 } ∷ entry_checks x.scene e
item_checks x (ends p) last =
    record { number = 13; holds = wrong_length x (ends p) last; carries = 0 }
    ∷ record { number = 2; holds = far_end p; carries = 0 }
    ∷ record { number = 15; holds = comes_apart_now (with_item x (ends p)); carries = 0 }
    ∷ []
item_checks x next last = record { number = 13; holds = wrong_length x next last; carries = 0 } ∷ []

abbrev pub series_lines : Grammar
series_lines = record { State = SoFar; Record = Item; line = item_line; Formed = ItemFormed; checks = item_checks; after = with_item }

-- ---- a text is a series, or has a first faulty line

pub record HoldsSeries (text : List ℕ) (x : Series) : Type 0 where
  pub items : List Item
  pub records : Lines.AllSound series_lines nothing_yet text items
  pub series : x ≡ series_so_far (after_all series_lines nothing_yet items)

abbrev pub SeriesFaultyAt : List ℕ → ℕ → ℕ → Type 0
SeriesFaultyAt = Lines.FaultyAt series_lines nothing_yet

-- ---- what is answered for a text

-- 7 for the first step whose list has no room, with the count it needs
unfoldable pub step_room : ℕ → Scene → Check
step_room room s = room_check room (length (pairs s))

abbrev pub room_checks : ℕ → Series → List Check
room_checks room x = map (step_room room) (steps_of x)

-- a series and what is told of it
pub record Ended : Type 0 where
  pub series : Series
  pub told : Told

-- all faults of lines come before the room of any step
pub data SeriesIs (text : List ℕ) (room : ℕ) (o : Outcome Ended) : Type 0 where
  faulty : (n line : ℕ) → o ≡ refused n line → SeriesFaultyAt text n line → SeriesIs text room o
  read : (x : Series) → HoldsSeries text x
      → Answers (room_checks room x) (λ (e : Ended). (e.series ≡ x) × ToldRight x e.told) o
      → SeriesIs text room o

-- 12, 8, then the text; the room is that of the lent list
abbrev pub SeriesOutcome : List ℕ → Scene → ℕ → Outcome Ended → Type 0
SeriesOutcome text lent room o =
    behind_twelve_and_eight (short_buffer lent) (long_text text) (SeriesIs text room) o

-- after success the scene and list buffers hold the last step in front, and what lies behind is unchanged; a refusal changes nothing
unfoldable pub last_step_left : Outcome Ended → Scene → Scene
last_step_left (given e) lent = in_front_of (last_step e.series) lent
last_step_left (refused n c) lent = lent

unfoldable pub list_left : Outcome Ended → List ℕ → List ℕ
list_left (given e) o = written (entries (pairs (last_step e.series))) o
list_left (refused n c) o = o

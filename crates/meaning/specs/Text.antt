-- 'Scene text' of document 01: a record and the bytes of its line, the texts that are scenes, the first faulty line, and what a reader
-- of texts answers.
use Rattle.std.specs.Prelude.{ℕ, suc, ◌*◌, ◌≤◌, Bool, false, ◌||◌, List, [], ◌∷◌, ◌++◌, map, ◌≡◌, ltb, ℤ, pos, negsuc, nat_abs, length, Result}
use Rattle.whole.specs.Vector.{Vector}
use Rattle.sequences.specs.Wrote.{written}
use Rattle.decimals.specs.Digits.{digits}
use Rattle.meaning.specs.Limits.{vertex_limit, edge_limit, triangle_limit, seam_limit, text_limit, digit_limit}
use Rattle.meaning.specs.Scene.{Scene, scene_of, vertex_count, edge_count, triangle_count, seam_count, over_size, out_of_range, unknown_vertex, broken_seam, repeated_vertex}
use Rattle.meaning.specs.Refusals.{Outcome, given, refused, Check, Answers, behind_twelve_and_eight, outcome_of}
use Rattle.meaning.specs.Lines as Lines
use Rattle.meaning.specs.Lines.{Grammar, after_all, lines_of}
use Rattle.meaning.specs.declared.SceneCounts.{SceneCounts}
use Rattle.meaning.specs.declared.Refused.{Refused}

-- ---- a record and its line

-- `v` and six numbers (start x y z, end x y z), `e` and two vertex numbers, `t` and three, `w` and two
pub data Entry : Type 0 where
  vertex : Vector → Vector → Entry
  edge : ℕ → ℕ → Entry
  triangle : ℕ → ℕ → ℕ → Entry
  seam : ℕ → ℕ → Entry

abbrev pub coordinates : Vector → Vector → List ℤ
coordinates p q = p.x ∷ p.y ∷ p.z ∷ q.x ∷ q.y ∷ q.z ∷ []

unfoldable pub letter_of : Entry → ℕ
letter_of (vertex p q) = 118
letter_of (edge a b) = 101
letter_of (triangle a b c) = 116
letter_of (seam i j) = 119

unfoldable pub numbers_of : Entry → List ℤ
numbers_of (vertex p q) = coordinates p q
numbers_of (edge a b) = pos a ∷ pos b ∷ []
numbers_of (triangle a b c) = pos a ∷ pos b ∷ pos c ∷ []
numbers_of (seam i j) = pos i ∷ pos j ∷ []

abbrev pub tab : ℕ
tab = 9

abbrev pub line_feed : ℕ
line_feed = 10

abbrev pub minus_sign : ℕ
minus_sign = 45

-- no leading zero except 0 itself; a minus, but not -0
unfoldable pub numeral : ℤ → List ℕ
numeral (pos n) = digits n
numeral (negsuc n) = minus_sign ∷ digits (suc n)

-- each field after the first has one separator in front
unfoldable pub further : ℕ → List (List ℕ) → List ℕ
further separator [] = []
further separator (f ∷ fs) = (separator ∷ f) ++ further separator fs

-- fields parted by one tab
abbrev pub rendered : Entry → List ℕ
rendered r = letter_of r ∷ further tab (map numeral (numbers_of r))

-- each line ended by LF
unfoldable pub line_of : Entry → List ℕ
line_of r = rendered r ++ (line_feed ∷ [])

-- each number has at most so many digits
unfoldable pub Short : ℕ → List ℤ → Type 0
Short most [] = Unit
Short most (z ∷ zs) = (length (digits (nat_abs z)) ≤ most) × Short most zs

-- ---- the scene that records make: ends, corners and seams as they are written

unfoldable pub coordinates_in : Entry → List ℤ
coordinates_in (vertex p q) = coordinates p q
coordinates_in (edge a b) = []
coordinates_in (triangle a b d) = []
coordinates_in (seam i j) = []

unfoldable pub ends_in : Entry → List ℕ
ends_in (vertex p q) = []
ends_in (edge a b) = a ∷ b ∷ []
ends_in (triangle a b d) = []
ends_in (seam i j) = []

unfoldable pub corners_in : Entry → List ℕ
corners_in (vertex p q) = []
corners_in (edge a b) = []
corners_in (triangle a b d) = a ∷ b ∷ d ∷ []
corners_in (seam i j) = []

unfoldable pub seam_in : Entry → List ℕ
seam_in (vertex p q) = []
seam_in (edge a b) = []
seam_in (triangle a b d) = []
seam_in (seam i j) = i ∷ j ∷ []

-- a scene with one record more
abbrev pub scene_with : Scene → Entry → Scene
scene_with s r =
    scene_of (s.positions ++ coordinates_in r) (s.edges ++ ends_in r) (s.triangles ++ corners_in r) (s.seams ++ seam_in r)

abbrev pub none : Scene
none = scene_of [] [] [] []

-- ---- what may be wrong with a record, given the scene of those above it

abbrev some_in : {A : Type 0} → List A → Bool
some_in l = ltb 0 (length l)

-- 10: a record after one of a later kind
unfoldable pub late : Scene → Entry → Bool
late s (vertex p q) = some_in s.edges || some_in s.triangles || some_in s.seams
late s (edge a b) = some_in s.triangles || some_in s.seams
late s (triangle a b d) = some_in s.seams
late s (seam i j) = false

-- in a line: 9 (it is no record's), then 10; then, of the scene with the record, 11 (one record more than its size), 2 (a coordinate
-- outside its range), 3 (a vertex number not below the count of `v` lines above it), 15 (a seam that breaks its rules), 4 (a vertex
-- twice in one edge or triangle: of a `w` line too, where it makes two corners stand for one vertex)
abbrev pub entry_checks : Scene → Entry → List Check
entry_checks s r =
    record { number = 10; holds = late s r; carries = 0 }
    ∷ record { number = 11; holds = over_size (scene_with s r); carries = 0 }
    ∷ record { number = 2; holds = out_of_range (scene_with s r); carries = 0 }
    ∷ record { number = 3; holds = unknown_vertex (scene_with s r); carries = 0 }
    ∷ record { number = 15; holds = broken_seam (scene_with s r); carries = 0 }
    ∷ record { number = 4; holds = repeated_vertex (scene_with s r); carries = 0 }
    ∷ []

abbrev pub EntryJudged : Scene → Entry → Outcome (Unit {0}) → Type 0
EntryJudged s r = Answers (entry_checks s r) (λ t. Unit {0})

-- ---- records in order

-- one to nine digits a number
abbrev pub scene_lines : Grammar
scene_lines = record {
  State = Scene;
  Record = Entry;
  line = line_of;
  Formed = λ s r. Short digit_limit (numbers_of r);
  checks = λ s r last. entry_checks s r;
  after = scene_with;
}

abbrev pub scene_from : List Entry → Scene
scene_from rs = after_all scene_lines none rs

abbrev pub text_of : List Entry → List ℕ
text_of = lines_of scene_lines

abbrev pub SceneSound : Scene → List Entry → Type 0
SceneSound s rs = Lines.Sound scene_lines s rs []

-- ---- a text is a scene, or has a first faulty line

-- it is the lines of records, none at fault, and the scene is theirs
pub record Holds (text : List ℕ) (s : Scene) : Type 0 where
  pub entries : List Entry
  pub records : Lines.AllSound scene_lines none text entries
  pub scene : s ≡ scene_from entries

-- 9, the line is no record's, or it has no LF; or the first check of its record that holds; and the first line with a fault
abbrev pub SceneFault : Scene → List ℕ → ℕ → Type 0
SceneFault = Lines.Fault scene_lines

abbrev pub SceneFaultyAt : List ℕ → ℕ → ℕ → Type 0
SceneFaultyAt = Lines.FaultyAt scene_lines none

unfoldable pub TextIs : List ℕ → Outcome Scene → Type 0
TextIs text (given s) = Holds text s
TextIs text (refused n line) = SceneFaultyAt text n line

-- ---- what a reader answers, and what it leaves in the lent buffers

-- 12: a lent scene buffer shorter than 3,072 positions, 1,024 x 2 edge, 512 x 3 triangle or 512 x 2 seam numbers
abbrev pub short_buffer : Scene → Bool
short_buffer lent =
    ltb (length lent.positions) (6 * vertex_limit) || ltb (length lent.edges) (2 * edge_limit)
    || ltb (length lent.triangles) (3 * triangle_limit)
    || ltb (length lent.seams) (2 * seam_limit)

-- 8: text over 32,768 bytes
abbrev pub long_text : List ℕ → Bool
long_text text = ltb text_limit (length text)

-- 12, 8, then the first faulty line
abbrev pub TextOutcome : List ℕ → Scene → Outcome Scene → Type 0
TextOutcome text lent o =
    behind_twelve_and_eight (short_buffer lent) (long_text text) (TextIs text) o

abbrev pub counts_of : Scene → SceneCounts
counts_of s = record { vertices = vertex_count s; edges = edge_count s; triangles = triangle_count s; seams = seam_count s }

unfoldable pub counts_told : Outcome Scene → Outcome SceneCounts
counts_told (given s) = given (counts_of s)
counts_told (refused n line) = refused n line

-- lent buffers with a scene in front; what lies behind it is unchanged
abbrev pub in_front_of : Scene → Scene → Scene
in_front_of s lent =
    scene_of (written s.positions lent.positions) (written s.edges lent.edges)
    (written s.triangles lent.triangles) (written s.seams lent.seams)

-- a refusal changes no lent number; after success the buffers hold the scene in front
unfoldable pub filled : Outcome Scene → Scene → Scene
filled (given s) lent = in_front_of s lent
filled (refused n line) lent = lent

-- what is promised of a reader: the buffers were lent, and are left
pub record TextRead (text : List ℕ) (lent left : Scene) (r : Result SceneCounts Refused) : Type 0 where
  pub outcome : Outcome Scene
  pub right : TextOutcome text lent outcome
  pub says : outcome_of r ≡ counts_told outcome
  pub leaves : left ≡ filled outcome lent

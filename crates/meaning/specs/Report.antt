-- The report of document 01: a line for each listed pair in order, last the totals; a refused scene prints only its refusal.
use Rattle.std.specs.Prelude.{ℕ, ◌+◌, ◌≤◌, ◌<◌, cond, List, [], ◌∷◌, ◌++◌, ◌≡◌, eqb, length, take}
use Rattle.decimals.specs.Digits.{digits}
use Rattle.sequences.specs.Wrote.{written}
use Rattle.meaning.specs.Limits.{text_limit, report_room}
use Rattle.meaning.specs.Scene.{Scene}
use Rattle.meaning.specs.List.{Pair, pairs}
use Rattle.meaning.specs.SceneWords.{byte_of, AllSettled}
use Rattle.meaning.specs.Text.{Holds, SceneFaultyAt, tab, line_feed, further}
use Rattle.meaning.specs.declared.Kind.{Kind}
use Rattle.meaning.specs.declared.Kind.TheVariants.{PointTriangle, EdgeEdge}
use Rattle.meaning.specs.declared.Settled.{Settled}
use Rattle.meaning.specs.declared.Settled.TheVariants.{Hit, Miss, Touch, Apart}

-- `pt` or `ee`
unfoldable pub kind_word : Kind → List ℕ
kind_word PointTriangle = 112 ∷ 116 ∷ []
kind_word EdgeEdge = 101 ∷ 101 ∷ []

-- `hit`, `miss`, `touch` or `apart`
unfoldable pub verdict_word : Settled → List ℕ
verdict_word Hit = 104 ∷ 105 ∷ 116 ∷ []
verdict_word Miss = 109 ∷ 105 ∷ 115 ∷ 115 ∷ []
verdict_word Touch = 116 ∷ 111 ∷ 117 ∷ 99 ∷ 104 ∷ []
verdict_word Apart = 97 ∷ 112 ∷ 97 ∷ 114 ∷ 116 ∷ []

-- `total` and `refused`
abbrev pub total_word : List ℕ
total_word = 116 ∷ 111 ∷ 116 ∷ 97 ∷ 108 ∷ []

abbrev pub refused_word : List ℕ
refused_word = 114 ∷ 101 ∷ 102 ∷ 117 ∷ 115 ∷ 101 ∷ 100 ∷ []

-- a word and its further fields, parted by one tab, the line ended by LF
abbrev pub report_line : List ℕ → List (List ℕ) → List ℕ
report_line word fields = word ++ further tab fields ++ (line_feed ∷ [])

abbrev pub pair_line : Pair → Settled → List ℕ
pair_line p w = report_line (kind_word p.kind) (digits p.first ∷ digits p.second ∷ verdict_word w ∷ [])

unfoldable pub pair_lines : List Pair → List Settled → List ℕ
pair_lines [] ws = []
pair_lines (p ∷ ps) [] = []
pair_lines (p ∷ ps) (w ∷ ws) = pair_line p w ++ pair_lines ps ws

-- how many of the words are the one asked for
unfoldable pub is_one : Settled → Settled → ℕ
is_one v w = cond (eqb (byte_of v) (byte_of w)) 1 0

unfoldable pub how_many : Settled → List Settled → ℕ
how_many v [] = 0
how_many v (w ∷ ws) = is_one v w + how_many v ws

-- listed, hits, misses, touch, apart
abbrev pub total_line : List Settled → List ℕ
total_line ws =
    report_line total_word
    (digits (length ws) ∷ digits (how_many Hit ws) ∷ digits (how_many Miss ws) ∷ digits (how_many Touch ws) ∷ digits (how_many Apart ws) ∷ [])

-- the refusal's number, and the line or the needed count or 0
abbrev pub refused_line : ℕ → ℕ → List ℕ
refused_line n third = report_line refused_word (digits n ∷ digits third ∷ [])

-- what is printed for a text: 8, or its first faulty line, or 7 with the count needed, or the pairs and the totals
pub data ReportOf (text : List ℕ) : List ℕ → Type 0 where
  too_long : text_limit < length text → ReportOf text (refused_line 8 0)
  faulty : (n line : ℕ) → length text ≤ text_limit → SceneFaultyAt text n line → ReportOf text (refused_line n line)
  no_room : (s : Scene) → length text ≤ text_limit → Holds text s → report_room < length (pairs s)
      → ReportOf text (refused_line 7 (length (pairs s)))
  judged : (s : Scene) (ws : List Settled) → length text ≤ text_limit → Holds text s → length (pairs s) ≤ report_room
      → AllSettled s (pairs s) ws
      → ReportOf text (pair_lines (pairs s) ws ++ total_line ws)

-- something that is right stands in front of the buffer that held o and holds o', n bytes long, and the rest is unchanged
pub record InFront (Right : List ℕ → Type 0) (o o' : List ℕ) (n : ℕ) : Type 0 where
  pub report : List ℕ
  pub right : Right report
  pub length_is : n ≡ length report
  pub buffer : o' ≡ written report o

abbrev pub Reported : List ℕ → List ℕ → List ℕ → ℕ → Type 0
Reported text = InFront (ReportOf text)

-- what a program read of a text into a buffer: the first `count` bytes of the buffer are the text's front; where they do not fill it, the
-- text ended there, else it may go on
pub record ReadOf (text buffer : List ℕ) (count : ℕ) : Type 0 where
  pub rest : List ℕ
  pub front : text ≡ take count buffer ++ rest
  pub ended : count < length buffer → rest ≡ []

-- what is promised of what was read is promised of every text of which that was read
abbrev pub OfAllRead : (List ℕ → Type 0) → List ℕ → ℕ → Type 0
OfAllRead Promised buffer count = (text : List ℕ) → ReadOf text buffer count → Promised text

abbrev pub ReportedRead : List ℕ → ℕ → List ℕ → List ℕ → ℕ → Type 0
ReportedRead buffer count o o' n = OfAllRead (λ text. Reported text o o' n) buffer count

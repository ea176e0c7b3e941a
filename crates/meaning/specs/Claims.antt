-- 'Checking a partner's claims' of document 02: a claim and its line, when it is answered yes, and what the call that answers promises.
use Rattle.std.specs.Prelude.{ℕ, ◌+◌, ◌≤◌, ◌<◌, Bool, true, false, ◌≡◌, ℤ, pos, length, get_or, ◌<ℤ◌, Result}
use mathlib.Core.List.{List, [], ◌∷◌, ◌++◌, map, flat_map}
use Rattle.sequences.specs.Wrote.{written}
use Rattle.meaning.specs.Limits.{text_limit, digit_limit, weight_digits, weight_limit, claim_room}
use Rattle.meaning.specs.Scene.{Scene}
use Rattle.meaning.specs.Pieces.{Piece, piece_of}
use Rattle.meaning.specs.Equations.{one, total, Balanced}
use Rattle.meaning.specs.Refusals.{Outcome, given, refused, Check, Answers, scene_checks, piece_asked, room_check, outcome_of}
use Rattle.meaning.specs.Lines as Lines
use Rattle.meaning.specs.Lines.{Grammar, AllSound}
use Rattle.meaning.specs.Text.{tab, line_feed, numeral, further, Short, Holds, SceneFaultyAt, long_text}
use Rattle.meaning.specs.Report.{kind_word, refused_line, InFront}
use Rattle.meaning.specs.declared.Kind.{Kind}
use Rattle.meaning.specs.declared.Refused.{Refused}

-- ---- a claim, and when it is answered yes

-- `pt` or `ee`, two places, piece, six weights
pub record Claim : Type 0 where
  pub kind : Kind
  pub first : ℕ
  pub second : ℕ
  pub piece : ℕ
  pub weights : List ℕ

-- the piece that is meant: of two edges the lower place comes first, whichever way the claim names them
abbrev pub piece_meant : Scene → Claim → Piece
piece_meant s c = piece_of s c.kind c.first c.second c.piece

abbrev pub weight_at : List ℕ → ℕ → ℕ
weight_at ws i = get_or ws i 0

-- weights stand in the order of the piece's points, those of the first simplex first
abbrev pub of_first_simplex : List ℕ → ℕ → ℤ
of_first_simplex ws i = pos (weight_at ws i)

abbrev pub of_second_simplex : Piece → List ℕ → ℕ → ℤ
of_second_simplex p ws i = pos (weight_at ws (length p.first + i))

-- each of the six weights is at most 2^40, both simplices sum to the same number above 0, and the weighted x, y, z and time agree
pub record BorneOut (p : Piece) (ws : List ℕ) : Type 0 where
  pub light : (i : ℕ) → i < 6 → weight_at ws i ≤ weight_limit
  pub balanced : Balanced p.first p.second (of_first_simplex ws) (of_second_simplex p ws)
  pub some : pos 0 <ℤ total one (of_first_simplex ws) p.first

-- yes exactly when it is so
unfoldable pub AnswerIs : Piece → List ℕ → Bool → Type 0
AnswerIs p ws true = BorneOut p ws
AnswerIs p ws false = ¬ BorneOut p ws

-- ---- its line

abbrev pub places_in : Claim → List ℤ
places_in c = pos c.first ∷ pos c.second ∷ pos c.piece ∷ []

abbrev pub weights_in : Claim → List ℤ
weights_in c = map pos c.weights

-- fields parted by one tab, the line ended by LF
unfoldable pub claim_line : Claim → List ℕ
claim_line c = kind_word c.kind ++ further tab (map numeral (places_in c ++ weights_in c)) ++ (line_feed ∷ [])

-- six weights of one to thirteen digits; the other numbers are one to nine digits
pub record ClaimFormed (c : Claim) : Type 0 where
  pub six : length c.weights ≡ 6
  pub places : Short digit_limit (places_in c)
  pub weights : Short weight_digits (weights_in c)

-- in a line: 9 (it is no claim's), then 5, 6
abbrev pub claim_checks : Scene → Claim → List Check
claim_checks s c = piece_asked s c.kind c.first c.second c.piece

-- the lines of a text of claims: a claim stands below any others
abbrev pub claim_lines : Scene → Grammar
claim_lines s = record {
  State = Unit {0};
  Record = Claim;
  line = claim_line;
  Formed = λ t c. ClaimFormed c;
  checks = λ t c last. claim_checks s c;
  after = λ t c. tt;
}

-- ---- what the call answers, and what it leaves in the lent buffer

-- each claim has the answer that stands in its place
unfoldable pub AllAnswered : Scene → List Claim → List Bool → Type 0
AllAnswered s [] [] = Unit {0}
AllAnswered s [] (b ∷ bs) = ⊥
AllAnswered s (c ∷ cs) [] = ⊥
AllAnswered s (c ∷ cs) (b ∷ bs) = AnswerIs (piece_meant s c) c.weights b × AllAnswered s cs bs

-- the scene's refusals first, 8 for the claims
abbrev pub claims_first : Scene → List ℕ → List Check
claims_first s text = scene_checks s ++ (record { number = 8; holds = long_text text; carries = 0 } ∷ [])

abbrev pub FirstIs : Scene → List ℕ → Outcome (Unit {0}) → Type 0
FirstIs s text = Answers (claims_first s text) (λ t. Unit {0})

-- last 7, where there are more claims than room for answers, with the count needed
abbrev pub claims_last : ℕ → List Claim → List Check
claims_last room cs = room_check room (length cs) ∷ []

-- those; between them the first faulty claim line
pub data ClaimsOutcome (s : Scene) (text : List ℕ) (room : ℕ) (o : Outcome (List Bool)) : Type 0 where
  before : (n c : ℕ) → o ≡ refused n c → FirstIs s text (refused n c) → ClaimsOutcome s text room o
  faulty : (n line : ℕ) → o ≡ refused n line → FirstIs s text (given tt)
      → Lines.FaultyAt (claim_lines s) tt text n line
      → ClaimsOutcome s text room o
  read : (cs : List Claim) → FirstIs s text (given tt) → AllSound (claim_lines s) tt text cs
      → Answers (claims_last room cs) (AllAnswered s cs) o
      → ClaimsOutcome s text room o

unfoldable pub how_many_told : Outcome (List Bool) → Outcome ℕ
how_many_told (given bs) = given (length bs)
how_many_told (refused n c) = refused n c

-- an answer in a lent byte buffer: no is 0, yes is 1
unfoldable pub answer_byte : Bool → ℕ
answer_byte false = 0
answer_byte true = 1

-- in the order of the lines, in front of a lent buffer whose rest is unchanged; where there is a refusal no claim is answered
unfoldable pub answers_left : Outcome (List Bool) → List ℕ → List ℕ
answers_left (given bs) o = written (map answer_byte bs) o
answers_left (refused n c) o = o

-- what is promised of the call: the buffer held o and holds o', and each of its bytes is room for an answer
pub record ClaimsChecked (s : Scene) (text o o' : List ℕ) (r : Result ℕ Refused) : Type 0 where
  pub outcome : Outcome (List Bool)
  pub right : ClaimsOutcome s text (length o) outcome
  pub says : outcome_of r ≡ how_many_told outcome
  pub leaves : o' ≡ answers_left outcome o

-- ---- what the program prints

-- a line `yes` or `no`
unfoldable pub answer_line : Bool → List ℕ
answer_line true = 121 ∷ 101 ∷ 115 ∷ line_feed ∷ []
answer_line false = 110 ∷ 111 ∷ line_feed ∷ []

abbrev pub answer_lines : List Bool → List ℕ
answer_lines bs = flat_map answer_line bs

-- of two texts, a scene's and the claims': a refusal of the scene, or one of the claims, or a line for each claim
pub data AnswersOf (scene_text text : List ℕ) : List ℕ → Type 0 where
  too_long : text_limit < length scene_text → AnswersOf scene_text text (refused_line 8 0)
  no_scene : (n line : ℕ) → length scene_text ≤ text_limit → SceneFaultyAt scene_text n line → AnswersOf scene_text text (refused_line n line)
  refused_claims : (s : Scene) (n c : ℕ) → length scene_text ≤ text_limit → Holds scene_text s
      → ClaimsOutcome s text claim_room (refused n c)
      → AnswersOf scene_text text (refused_line n c)
  answered : (s : Scene) (bs : List Bool) → length scene_text ≤ text_limit → Holds scene_text s
      → ClaimsOutcome s text claim_room (given bs)
      → AnswersOf scene_text text (answer_lines bs)

abbrev pub AnswersReported : List ℕ → List ℕ → List ℕ → List ℕ → ℕ → Type 0
AnswersReported scene_text text = InFront (AnswersOf scene_text text)

-- 'Refusal numbers' of document 01: the number of each refusal, and what it is for an answer to be right: refused with n exactly when
-- n's condition holds and no check before it refuses.
use Rattle.std.specs.Prelude.{ℕ, Bool, cond, ◌||◌, List, [], ◌∷◌, ◌++◌, ◌≡◌, leb, ltb, Err, Ok, Result}
use Rattle.meaning.specs.Scene.{Scene, vertex_count, edge_count, triangle_count, edge_end, corner, same, wrong_shape, out_of_range, unknown_vertex, broken_seam, repeated_vertex}
use Rattle.meaning.specs.Pieces.{piece_count, piece_of}
use Rattle.meaning.specs.Verdicts.{PieceIs, PairIs}
use Rattle.meaning.specs.declared.Kind.{Kind}
use Rattle.meaning.specs.declared.Kind.TheVariants.{PointTriangle, EdgeEdge}
use Rattle.meaning.specs.declared.Verdict.{Verdict}
use Rattle.meaning.specs.declared.Refusal.{Refusal}
use Rattle.meaning.specs.declared.Refused.{Refused}
use Rattle.meaning.specs.declared.Refusal.TheVariants.{Shape, Coordinate, UnknownVertex, RepeatedVertex, NotThere, SharedVertex, NoRoom, LongText, BadLine, LateRecord, TooMany, ShortBuffer, BlockLength, FilesDiffer, BrokenSeam, BeyondOldRange, StaleBox, WrongOrder}

unfoldable pub number_of : Refusal → ℕ
number_of Shape = 1
number_of Coordinate = 2
number_of UnknownVertex = 3
number_of RepeatedVertex = 4
number_of NotThere = 5
number_of SharedVertex = 6
number_of NoRoom = 7
number_of LongText = 8
number_of BadLine = 9
number_of LateRecord = 10
number_of TooMany = 11
number_of ShortBuffer = 12
number_of BlockLength = 13
number_of FilesDiffer = 14
number_of BrokenSeam = 15
number_of BeyondOldRange = 16
number_of StaleBox = 17
number_of WrongOrder = 18

-- what an answer says in document 01's terms: a value, or a refusal's number with the line or the count that it carries (else 0)
pub data Outcome (A : Type 0) : Type 0 where
  given : A → Outcome A
  refused : ℕ → ℕ → Outcome A

abbrev pub carrying : Refusal → ℕ → Refused
carrying why n = record { why = why; carries = n }

unfoldable pub outcome_alone : {A : Type 0} → Result A Refusal → Outcome A
outcome_alone (Ok a) = given a
outcome_alone (Err r) = refused (number_of r) 0

unfoldable pub outcome_of : {A : Type 0} → Result A Refused → Outcome A
outcome_of (Ok a) = given a
outcome_of (Err r) = refused (number_of r.why) r.carries

-- one row of the table: its number, whether its condition holds, what its refusal carries
pub record Check : Type 0 where
  pub number : ℕ
  pub holds : Bool
  pub carries : ℕ

-- the first check that holds refuses; where none does, a value is given, and it is right
unfoldable pub Answers : {A : Type 0} → List Check → (A → Type 0) → Outcome A → Type 0
Answers [] Right (given a) = Right a
Answers [] Right (refused n c) = ⊥
Answers (k ∷ ks) Right o = cond k.holds (o ≡ refused k.number k.carries) (Answers ks Right o)

-- 7: more than there is room for; it carries the count needed
abbrev pub room_check : ℕ → ℕ → Check
room_check room needed = record { number = 7; holds = ltb room needed; carries = needed }

-- 12 for a lent buffer that is too short, 8 for a text that is too long, then what the text gives
abbrev pub behind_twelve_and_eight : {A : Type 0} → Bool → Bool → (Outcome A → Type 0) → Outcome A → Type 0
behind_twelve_and_eight short long Is o = cond short (o ≡ refused 12 0) (cond long (o ≡ refused 8 0) (Is o))

-- 1, 2, 3, 15, 4, each over the whole scene before the next
abbrev pub scene_checks : Scene → List Check
scene_checks s =
    record { number = 1; holds = wrong_shape s; carries = 0 }
    ∷ record { number = 2; holds = out_of_range s; carries = 0 }
    ∷ record { number = 3; holds = unknown_vertex s; carries = 0 }
    ∷ record { number = 15; holds = broken_seam s; carries = 0 }
    ∷ record { number = 4; holds = repeated_vertex s; carries = 0 }
    ∷ []

-- 5: a vertex, edge or triangle asked for that isn't there
unfoldable pub not_there : Scene → Kind → ℕ → ℕ → Bool
not_there s PointTriangle i j = leb (vertex_count s) i || leb (triangle_count s) j
not_there s EdgeEdge i j = leb (edge_count s) i || leb (edge_count s) j

-- 6: the pair asked for shares a vertex (an edge with itself too)
unfoldable pub shares : Scene → Kind → ℕ → ℕ → Bool
shares s PointTriangle i j = same s i (corner s j 0) || same s i (corner s j 1) || same s i (corner s j 2)
shares s EdgeEdge i j =
    same s (edge_end s i 0) (edge_end s j 0) || same s (edge_end s i 0) (edge_end s j 1)
    || same s (edge_end s i 1) (edge_end s j 0)
    || same s (edge_end s i 1) (edge_end s j 1)

abbrev pub pair_checks : Scene → Kind → ℕ → ℕ → List Check
pair_checks s kind i j =
    scene_checks s
    ++ (record { number = 5; holds = not_there s kind i j; carries = 0 }
    ∷ record { number = 6; holds = shares s kind i j; carries = 0 }
    ∷ [])

-- 5 and 6 of a piece that is asked for
abbrev pub piece_asked : Scene → Kind → ℕ → ℕ → ℕ → List Check
piece_asked s kind i j k =
    record { number = 5; holds = not_there s kind i j || leb (piece_count kind) k; carries = 0 }
    ∷ record { number = 6; holds = shares s kind i j; carries = 0 }
    ∷ []

abbrev pub piece_checks : Scene → Kind → ℕ → ℕ → ℕ → List Check
piece_checks s kind i j k = scene_checks s ++ piece_asked s kind i j k

-- what is promised of the check of a scene, of a pair asked for, and of a piece of a pair
abbrev pub SceneChecked : Scene → Result (Unit {0}) Refusal → Type 0
SceneChecked s r = Answers (scene_checks s) (λ t. Unit {0}) (outcome_alone r)

abbrev pub PairJudged : Scene → Kind → ℕ → ℕ → Result Verdict Refusal → Type 0
PairJudged s kind i j r = Answers (pair_checks s kind i j) (PairIs s kind i j) (outcome_alone r)

abbrev pub PieceJudged : Scene → Kind → ℕ → ℕ → ℕ → Result Verdict Refusal → Type 0
PieceJudged s kind i j k r = Answers (piece_checks s kind i j k) (PieceIs (piece_of s kind i j k)) (outcome_alone r)

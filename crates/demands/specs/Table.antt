-- 'Shown cases' of document 01: its table, row by row, with the word of each pair beside those of its pieces, and what it is for a row to be
-- right. Cloth at rest makes case 6 apart and case 7 touch.
use Rattle.std.specs.Prelude.{ℕ, ◌-◌, ◌<◌, Bool, true, false, List, [], ◌∷◌, ◌++◌, ◌≡◌, ℤ, pos, neg_ℤ, length, get_or}
use Rattle.whole.specs.Vector.{Vector}
use Rattle.meaning.specs.Scene.{Scene, scene_of, Accepted}
use Rattle.meaning.specs.Pieces.{piece_of, piece_count}
use Rattle.meaning.specs.Verdicts.{PieceIs, PairIs}
use Rattle.meaning.specs.Resting.{PieceSettled, PairSettled}
use Rattle.meaning.specs.Refusals.{not_there, shares}
use Rattle.meaning.specs.Text.{coordinates}
use Rattle.meaning.specs.declared.Kind.{Kind}
use Rattle.meaning.specs.declared.Kind.TheVariants.{PointTriangle, EdgeEdge}
use Rattle.meaning.specs.declared.Settled.{Settled}
use Rattle.meaning.specs.declared.Settled.TheVariants.{Hit, Miss, Touch, Apart}
use Rattle.corner_search.specs.Decided.{verdict_of_word}
use Rattle.demands.specs.Standing.{Stands}

-- a row: the pair, the words of its pieces, its own word, and whether it stands in the list
pub record Case : Type 0 where
  pub scene : Scene
  pub kind : Kind
  pub first : ℕ
  pub second : ℕ
  pub pieces : List Settled
  pub word : Settled
  pub in_list : Bool

-- ---- the scenes

abbrev pub neg : ℕ → ℤ
neg n = neg_ℤ (pos n)

abbrev pub at : ℤ → ℤ → ℤ → Vector
at x y z = record { x = x; y = y; z = z }

abbrev at_rest : Vector → List ℤ
at_rest p = coordinates p p

-- T is the resting triangle (0,0,0), (4,0,0), (0,4,0), vertices 0, 1, 2; the point is vertex 3
abbrev pub point_case : Vector → Vector → List Settled → Settled → Bool → Case
point_case p q pieces word in_list =
    record {
      scene = scene_of
          (at_rest (at (pos 0) (pos 0) (pos 0)) ++ at_rest (at (pos 4) (pos 0) (pos 0)) ++ at_rest (at (pos 0) (pos 4) (pos 0)) ++ coordinates p q)
          [] (0 ∷ 1 ∷ 2 ∷ []) [];
      kind = PointTriangle;
      first = 3;
      second = 0;
      pieces = pieces;
      word = word;
      in_list = in_list;
    }

-- E is the resting edge (-2,0,0), (2,0,0), vertices 0, 1; the other edge, c d, is 2, 3; E is edge 0 and c d edge 1; z from 1 to -1
abbrev pub edge_case : (ℤ → Vector) → (ℤ → Vector) → List Settled → Settled → Bool → Case
edge_case c d pieces word in_list =
    record {
      scene = scene_of
          (at_rest (at (neg 2) (pos 0) (pos 0)) ++ at_rest (at (pos 2) (pos 0) (pos 0)) ++ coordinates (c (pos 1)) (c (neg 1))
          ++ coordinates (d (pos 1)) (d (neg 1)))
          (0 ∷ 1 ∷ 2 ∷ 3 ∷ []) [] [];
      kind = EdgeEdge;
      first = 0;
      second = 1;
      pieces = pieces;
      word = word;
      in_list = in_list;
    }

-- ---- the table

-- the motion, the pieces, the pair, in the list or not; rows 1 to 12 in their order
abbrev pub cases : List Case
cases =
    point_case (at (pos 1) (pos 1) (pos 1)) (at (pos 1) (pos 1) (neg 1)) (Miss ∷ Hit ∷ Hit ∷ []) Hit true
    ∷ point_case (at (pos 3) (pos 3) (pos 1)) (at (pos 3) (pos 3) (neg 1)) (Miss ∷ Miss ∷ Miss ∷ []) Miss true
    ∷ point_case (at (pos 1) (pos 1) (pos 1)) (at (pos 1) (pos 1) (pos 0)) (Miss ∷ Miss ∷ Hit ∷ []) Hit true
    ∷ point_case (at (pos 1) (pos 1) (pos 0)) (at (pos 1) (pos 1) (pos 1)) (Hit ∷ Miss ∷ Miss ∷ []) Hit true
    ∷ point_case (at (pos 5) (pos 5) (pos 1)) (at (pos 5) (pos 5) (neg 1)) (Miss ∷ Miss ∷ Miss ∷ []) Miss false
    ∷ point_case (at (pos 1) (pos 1) (pos 1)) (at (pos 1) (pos 1) (pos 1)) (Apart ∷ Apart ∷ Apart ∷ []) Apart false
    ∷ point_case (at (pos 1) (pos 1) (pos 0)) (at (pos 2) (pos 1) (pos 0)) (Touch ∷ Touch ∷ Touch ∷ []) Touch true
    ∷ point_case (at (pos 4) (pos 0) (pos 1)) (at (pos 4) (pos 0) (neg 1)) (Miss ∷ Hit ∷ Miss ∷ []) Hit true
    ∷ edge_case (at (pos 0) (neg 2)) (at (pos 0) (pos 2)) (Hit ∷ Hit ∷ Hit ∷ Hit ∷ []) Hit true
    ∷ edge_case (at (pos 0) (pos 3)) (at (pos 3) (pos 0)) (Miss ∷ Miss ∷ Miss ∷ Miss ∷ []) Miss true
    ∷ edge_case (at (pos 2) (neg 2)) (at (pos 2) (pos 2)) (Hit ∷ Hit ∷ Miss ∷ Miss ∷ []) Hit true
    ∷ edge_case (at (pos 3) (neg 2)) (at (pos 3) (pos 2)) (Miss ∷ Miss ∷ Miss ∷ Miss ∷ []) Miss false
    ∷ []

-- the case with a number of the table
abbrev pub numbered : ℕ → Case
numbered n = get_or cases (n - 1) (point_case (at (pos 0) (pos 0) (pos 0)) (at (pos 0) (pos 0) (pos 0)) [] Miss false)

-- ---- what a row says

unfoldable pub StandsIf : Bool → Scene → Kind → ℕ → ℕ → Type 0
StandsIf true s kind i j = Stands s kind i j
StandsIf false s kind i j = ¬ Stands s kind i j

-- the scene is accepted, the pair is there and shares no vertex; each piece has its word, and the verdict that goes with it, and so has the
-- pair; the pair stands in the list or does not
pub record IsRight (c : Case) : Type 0 where
  pub accepted : Accepted c.scene
  pub there : not_there c.scene c.kind c.first c.second ≡ false
  pub apart : shares c.scene c.kind c.first c.second ≡ false
  pub as_many : length c.pieces ≡ piece_count c.kind
  pub each : (k : ℕ) → k < piece_count c.kind → PieceSettled (piece_of c.scene c.kind c.first c.second k) (get_or c.pieces k Miss)
  pub verdicts : (k : ℕ) → k < piece_count c.kind
      → PieceIs (piece_of c.scene c.kind c.first c.second k) (verdict_of_word (get_or c.pieces k Miss))
  pub pair_word : PairSettled c.scene c.kind c.first c.second c.word
  pub pair_verdict : PairIs c.scene c.kind c.first c.second (verdict_of_word c.word)
  pub list : StandsIf c.in_list c.scene c.kind c.first c.second

-- 'Try these against it': the wrong programs that document 01 names, each barred by a promise. What the promises leave to a program is the
-- one right answer, so each is shown on a scene where the wrong program would give another.
use Rattle.std.specs.Prelude.{ℕ, ◌≤◌, ◌<◌, ◌||◌, List, ◌≡◌, refl, length, get_or, Ok, Result}
use Rattle.std.proofs.Math.Bool.{false}
use Rattle.std.proofs.Math.Dec.{leb}
use borrow.Author.Tests.{lt-leb}
use Rattle.meaning.specs.Scene.{Scene, Accepted}
use Rattle.meaning.specs.Pieces.{piece_of, piece_count}
use Rattle.meaning.specs.Verdicts.{PieceIs, PairIs}
use Rattle.meaning.specs.Resting.{PieceSettled, PairSettled, PairDecided, PieceDecided}
use Rattle.meaning.specs.Refusals.{not_there, shares, SceneChecked, PairJudged, PieceJudged, outcome_alone, outcome_of}
use Rattle.meaning.specs.List.{pairs, room_of, Listing}
use Rattle.meaning.specs.declared.Kind.{Kind}
use Rattle.meaning.specs.declared.Verdict.{Verdict}
use Rattle.meaning.specs.declared.Settled as Words
use Rattle.meaning.specs.declared.Settled.{Settled}
use Rattle.corner_search.specs.Decided.{verdict_of_word}
use Rattle.demands.specs.Demand1.{demand1_scene, demand1_pair, demand1_piece, demand1_settled_pair, demand1_settled_piece, demand1_listing}
use Rattle.demands.specs.Table.{Case}
use Rattle.meaning.specs.declared.Refusal.{Refusal}
use Rattle.meaning.specs.declared.Refused.{Refused}
use Rattle.answers.specs.Speaking.{one_alone, one_carrying}

-- ---- refuse everything

-- an accepted scene is accepted, a pair of it that is there and shares no vertex is judged, and its list is made where there is room
pub accepts : (s : Scene) (r : Result (Unit {0}) Refusal) → Accepted s → SceneChecked s r → r ≡ Ok tt
unfolding outcome_alone
accepts s r a p = one_alone r (Ok tt) ((demand1_scene s r p).accepted.1 a)

module _ (s : Scene) (kind : Kind) (i j : ℕ) (a : Accepted s) (there : not_there s kind i j ≡ false) (apart : shares s kind i j ≡ false) where
  pub judges : (v : Verdict) → PairIs s kind i j v → (r : Result Verdict Refusal) → PairJudged s kind i j r → r ≡ Ok v
  unfolding outcome_alone
  judges v is r p = one_alone r (Ok v) (((demand1_pair s kind i j r p).judged v).1 (a, (there, apart, is)))

  pub judges_pieces : (k : ℕ) → k < piece_count kind → (v : Verdict) → PieceIs (piece_of s kind i j k) v → (r : Result Verdict Refusal) → PieceJudged s kind i j k r → r ≡ Ok v
  unfolding outcome_alone
  judges_pieces k below v is r p =
      let known : not_there s kind i j || leb (piece_count kind) k ≡ false = rw (there, lt-leb (piece_count kind) k below) in
      one_alone r (Ok v) (((demand1_piece s kind i j k r p).judged v).1 (a, (known, apart, is)))

  pub settles : (w : Settled) → PairSettled s kind i j w → (r : Result Settled Refusal) → PairDecided s kind i j r → r ≡ Ok w
  unfolding outcome_alone
  settles w is r p = one_alone r (Ok w) (((demand1_settled_pair s kind i j r p).judged w).1 (a, (there, apart, is)))

  pub settles_pieces : (k : ℕ) → k < piece_count kind → (w : Settled) → PieceSettled (piece_of s kind i j k) w → (r : Result Settled Refusal) → PieceDecided s kind i j k r → r ≡ Ok w
  unfolding outcome_alone
  settles_pieces k below w is r p =
      let known : not_there s kind i j || leb (piece_count kind) k ≡ false = rw (there, lt-leb (piece_count kind) k below) in
      one_alone r (Ok w) (((demand1_settled_piece s kind i j k r p).judged w).1 (a, (known, apart, is)))

pub lists : (s : Scene) (o o' : List ℕ) (r : Result ℕ Refused) → Accepted s → length (pairs s) ≤ room_of o → Listing s o o' r
    → r ≡ Ok (length (pairs s))
unfolding outcome_of
lists s o o' r a room p = one_carrying r _ (((demand1_listing s o o' r p).listed (length (pairs s))).1 (a, (room, refl)))

-- ---- a piece's verdict, asked for in each of the twelve cases

abbrev pub Answered : Case → Type 0
Answered c =
    (k : ℕ) → k < piece_count c.kind → (r : Result Verdict Refusal) → PieceJudged c.scene c.kind c.first c.second k r → r ≡ Ok (verdict_of_word (get_or c.pieces k Words.TheVariants.Miss))

abbrev pub Settled_so : Case → Type 0
Settled_so c =
    (k : ℕ) → k < piece_count c.kind → (r : Result Settled Refusal) → PieceDecided c.scene c.kind c.first c.second k r → r ≡ Ok (get_or c.pieces k Words.TheVariants.Miss)

-- ---- always miss, always degenerate; a singular pair taken as a hit or as a miss

-- a pair's verdict, asked for in each of the twelve cases: the one that goes with its word in the table
abbrev pub PairAnswered : Case → Type 0
PairAnswered c =
    (r : Result Verdict Refusal) → PairJudged c.scene c.kind c.first c.second r → r ≡ Ok (verdict_of_word c.word)

-- ---- always touch, always apart

-- and in four words: its word in the table
abbrev pub WordAnswered : Case → Type 0
WordAnswered c =
    (r : Result Settled Refusal) → PairDecided c.scene c.kind c.first c.second r → r ≡ Ok c.word

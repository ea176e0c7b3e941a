-- Demand 2, of every scene whatever: the verdicts of its pieces and pairs, its list, and the pairs that the list leaves out. The pieces and
-- the equations are those of `meaning`, in document 01's words.
use Rattle.std.specs.Prelude.{ℕ, ◌≤◌, ◌<◌, Bool, true, false, ◌||◌, List, ◌↔◌, ◌⊎◌, ◌≡◌, leb, pos, length, get_or, Result}
use Rattle.std.proofs.Math.Logic.{inl, inr, ⊎_elim}
use Rattle.std.proofs.Common.{lit≤}
use Rattle.std.proofs.lemmas.Bool.{lt-leb}
use Rattle.sequences.specs.Lists.{Lists}
use Rattle.meaning.specs.Limits.{coordinate_limit, contact_limit}
use Rattle.meaning.specs.Scene.{Scene, AcceptedWithin, Accepted}
use Rattle.meaning.specs.Pieces.{Piece, piece_of, piece_count}
use Rattle.meaning.specs.Equations.{determinant_of, Touches}
use Rattle.meaning.specs.Verdicts.{PieceIs, SomePiece, PairIs}
use Rattle.meaning.specs.Resting.{PieceSettled, SomeSettled, PairSettled, PairDecided, PieceDecided}
use Rattle.meaning.specs.Refusals.{Outcome, given, not_there, shares, PairJudged, PieceJudged, outcome_alone}
use Rattle.meaning.specs.Boxes.{boxes_meet, culled}
use Rattle.meaning.specs.Motion.{TouchInMotion}
use Rattle.meaning.specs.List.{Pair, pairs}
use Rattle.meaning.specs.declared.Kind.{Kind}
use Rattle.meaning.specs.declared.Verdict.{Verdict}
use Rattle.meaning.specs.declared.Verdict.TheVariants.{Hit, Miss, Degenerate}
use Rattle.meaning.specs.declared.Settled as Words
use Rattle.meaning.specs.declared.Settled.{Settled}
use Rattle.theory.specs.Rational.{touch_rational}
use Rattle.theory.specs.RationalVerdicts.{Solvable, Meets, RationalPieceIs}
use Rattle.theory.proofs.RationalVerdicts.{piece_rational}
use Rattle.theory.proofs.OneVerdict.{piece_is, judged_pair, pair_is}
use Rattle.theory.specs.Computed.{piece_verdict, pair_verdict}
use Rattle.theory.proofs.SevenPieces.{judged_piece}
use Rattle.theory.specs.Cull.{culled_apart, culled_apart_in_motion, culled_never_meets}
use Rattle.corner_search.specs.Decided.{piece_word, pair_word, settled_piece, piece_word_is, settled_pair, pair_word_is, some_hit}
use Rattle.scene_checks.specs.Facts.{accepted_wider}
use Rattle.list_pairs.specs.InOrder.{Earlier, ToList, list_is, list_only, list_once}
use Rattle.demands.specs.Demand1.{AskedTable, demand1_pair, demand1_piece, demand1_settled_pair, demand1_settled_piece}
use Rattle.meaning.specs.declared.Refusal.{Refusal}

-- one of the three, or of the four, and no other
pub record ExactlyOne {W : Type 0} (Is : W → Type 0) : Type 0 where
  pub verdict : W
  pub is : Is verdict
  pub only : (v : W) → Is v → v ≡ verdict

-- 'Where the six equations of a space-time piece have one solution, it is hit exactly when nonnegative rational weights solve them, else
-- miss; where they are singular, degenerate.'
pub record PieceAsDemanded (p : Piece) : Type 0 where
  pub one : ExactlyOne (PieceIs p)
  pub hit : Solvable p → PieceIs p Hit ↔ Meets p
  pub miss : Solvable p → PieceIs p Miss ↔ ¬ Meets p
  pub degenerate : PieceIs p Degenerate ↔ ¬ Solvable p
  pub singular : (determinant_of p ≡ pos 0) ↔ ¬ Solvable p
  -- in four words: hit and miss are as before, and a singular piece is touch exactly when weights exist, else apart
  pub one_word : ExactlyOne (PieceSettled p)
  pub same_hit : PieceSettled p Words.TheVariants.Hit ↔ PieceIs p Hit
  pub same_miss : PieceSettled p Words.TheVariants.Miss ↔ PieceIs p Miss
  pub touch : ¬ Solvable p → PieceSettled p Words.TheVariants.Touch ↔ Meets p
  pub apart : ¬ Solvable p → PieceSettled p Words.TheVariants.Apart ↔ ¬ Meets p
  -- so the weights cover every piece, singular or not
  pub weights : Meets p ↔ (PieceSettled p Words.TheVariants.Hit ⊎ PieceSettled p Words.TheVariants.Touch)

-- 'hit if any piece is hit; else degenerate if any piece is; else miss'
pub record PairAsDemanded (s : Scene) (kind : Kind) (i j : ℕ) : Type 0 where
  pub one : ExactlyOne (PairIs s kind i j)
  pub hit : PairIs s kind i j Hit ↔ SomePiece s kind i j Hit
  pub degenerate : ¬ SomePiece s kind i j Hit → PairIs s kind i j Degenerate ↔ SomePiece s kind i j Degenerate
  pub miss : ¬ SomePiece s kind i j Hit → PairIs s kind i j Miss ↔ ¬ SomePiece s kind i j Degenerate
  -- in four words: hit, else touch if a degenerate piece touches, else apart if any piece is degenerate, else miss
  pub one_word : ExactlyOne (PairSettled s kind i j)
  pub same_hit : PairSettled s kind i j Words.TheVariants.Hit ↔ PairIs s kind i j Hit
  pub touch : ¬ PairIs s kind i j Hit → PairSettled s kind i j Words.TheVariants.Touch ↔ SomeSettled s kind i j Words.TheVariants.Touch
  pub apart : ¬ PairIs s kind i j Hit → ¬ SomeSettled s kind i j Words.TheVariants.Touch
      → PairSettled s kind i j Words.TheVariants.Apart ↔ SomePiece s kind i j Degenerate
  pub same_miss : PairSettled s kind i j Words.TheVariants.Miss ↔ PairIs s kind i j Miss

pub record VerdictsAsDemanded (s : Scene) (kind : Kind) (i j : ℕ) : Type 0 where
  pub pieces : (k : ℕ) → PieceAsDemanded (piece_of s kind i j k)
  pub pair : PairAsDemanded s kind i j

module _ (s : Scene) (kind : Kind) (i j : ℕ) where
  -- a piece with weights is a hit or a touch
  decided : (k : ℕ) → Touches (piece_of s kind i j k) → PieceSettled (piece_of s kind i j k) Words.TheVariants.Hit ⊎ PieceSettled (piece_of s kind i j k) Words.TheVariants.Touch
  unfolding PieceSettled PieceIs
  decided k t = go (piece_word s kind i j k) (settled_piece s kind i j k)
    where
      go : (w : Settled) → PieceSettled (piece_of s kind i j k) w → PieceSettled (piece_of s kind i j k) Words.TheVariants.Hit ⊎ PieceSettled (piece_of s kind i j k) Words.TheVariants.Touch
      go Words.TheVariants.Hit h = inl h
      go Words.TheVariants.Miss h = absurd (h.1 t)
      go Words.TheVariants.Touch h = inr h
      go Words.TheVariants.Apart h = absurd (h.1 t)

  piece_as_demanded : (k : ℕ) → PieceAsDemanded (piece_of s kind i j k)
  unfolding PieceIs RationalPieceIs PieceSettled
  piece_as_demanded k =
      let told = piece_rational s kind i j k in
      let meets = touch_rational (piece_of s kind i j k).first (piece_of s kind i j k).second in
      record {
        one = record { verdict = piece_verdict s kind i j k; is = judged_piece s kind i j k; only = λ v h. (piece_is s kind i j k v).0 h };
        hit = λ one. (λ h. ((told Hit).0 h).1, λ m. (told Hit).1 (one, m));
        miss = λ one. (λ h. ((told Miss).0 h).1, λ m. (told Miss).1 (one, m));
        degenerate = told Degenerate;
        singular = told Degenerate;
        one_word = record { verdict = piece_word s kind i j k; is = settled_piece s kind i j k; only = λ w h. (piece_word_is s kind i j k w).0 h };
        same_hit = (λ h. h, λ h. h);
        same_miss = (λ h. h, λ h. h);
        touch = λ none. (λ h. meets.0 h.1, λ m. ((told Degenerate).1 none, meets.1 m));
        apart = λ none. (λ h m. h.1 (meets.1 m), λ n. ((told Degenerate).1 none, λ t. n (meets.0 t)));
        weights = (λ m. decided k (meets.1 m), ⊎_elim (λ h. meets.0 h.1) (λ h. meets.0 h.1));
      }

  pair_as_demanded : PairAsDemanded s kind i j
  unfolding PairIs PairSettled
  pair_as_demanded =
      record {
        one = record { verdict = pair_verdict s kind i j; is = judged_pair s kind i j; only = λ v h. (pair_is s kind i j v).0 h };
        hit = (λ h. h, λ h. h);
        degenerate = λ none. (λ h. h.1, λ h. (none, h));
        miss = λ none. (λ h. h.1, λ h. (none, h));
        one_word = record { verdict = pair_word s kind i j; is = settled_pair s kind i j; only = λ w h. (pair_word_is s kind i j w).0 h };
        same_hit = ((some_hit s kind i j).1, (some_hit s kind i j).0);
        touch = λ none. (λ h. h.1, λ h. (λ t. none ((some_hit s kind i j).1 t), h));
        apart = λ none no. (λ h. h.2, λ h. (λ t. none ((some_hit s kind i j).1 t), no, h));
        same_miss = (
          λ h. (λ t. h.0 ((some_hit s kind i j).0 t), h.1),
          λ h. (λ t. h.0 ((some_hit s kind i j).1 t), h.1),
        );
      }

  pub demand2_verdicts : VerdictsAsDemanded s kind i j
  demand2_verdicts = record { pieces = piece_as_demanded; pair = pair_as_demanded }

-- 'Show the verdicts once for any bound up to the new one.' The verdicts above are of every scene; in one that is accepted within a bound up to the
-- limit, whatever meets the promises answers with them, and refuses no pair that is there and shares no vertex.
pub record AnswersAsDemanded (s : Scene) (kind : Kind) (i j : ℕ) : Type 0 where
  pub verdicts : VerdictsAsDemanded s kind i j
  pub pair : (r : Result Verdict Refusal) → PairJudged s kind i j r → (v : Verdict) → (outcome_alone r ≡ given v) ↔ PairIs s kind i j v
  pub piece : (k : ℕ) → k < piece_count kind → (r : Result Verdict Refusal) → PieceJudged s kind i j k r
      → (v : Verdict) → (outcome_alone r ≡ given v) ↔ PieceIs (piece_of s kind i j k) v
  pub pair_word : (r : Result Settled Refusal) → PairDecided s kind i j r → (w : Settled) → (outcome_alone r ≡ given w) ↔ PairSettled s kind i j w
  pub piece_word : (k : ℕ) → k < piece_count kind → (r : Result Settled Refusal) → PieceDecided s kind i j k r
      → (w : Settled) → (outcome_alone r ≡ given w) ↔ PieceSettled (piece_of s kind i j k) w

-- where neither 5 nor 6 holds in an accepted scene, a value is given exactly when it is right
given_right : {W : Type 0} {s : Scene} {missing shared : Bool} {Is : W → Type 0} {o : Outcome W} → AskedTable s missing shared Is o
    → Accepted s → missing ≡ false → shared ≡ false → (v : W) → (o ≡ given v) ↔ Is v
given_right t a m h v = (λ e. ((t.judged v).0 e).1.2, λ is. (t.judged v).1 (a, (m, h, is)))

pub demand2_answers : (B : ℕ) → B ≤ coordinate_limit → {s : Scene} → AcceptedWithin B s
    → (kind : Kind) (i j : ℕ) → not_there s kind i j ≡ false → shares s kind i j ≡ false → AnswersAsDemanded s kind i j
demand2_answers B small {s} within kind i j there apart =
    let a : Accepted s = accepted_wider small within in
    record {
      verdicts = demand2_verdicts s kind i j;
      pair = λ r p. given_right (demand1_pair s kind i j r p) a there apart;
      piece = λ k h r p. given_right (demand1_piece s kind i j k r p) a (known k h) apart;
      pair_word = λ r p. given_right (demand1_settled_pair s kind i j r p) a there apart;
      piece_word = λ k h r p. given_right (demand1_settled_piece s kind i j k r p) a (known k h) apart;
    }
  where
    known : (k : ℕ) → k < piece_count kind → not_there s kind i j || leb (piece_count kind) k ≡ false
    known k h = rw (there, lt-leb (piece_count kind) k h)

-- so in the range that coordinates had at first, where contacts are given
pub demand2_first_range : {s : Scene} → AcceptedWithin contact_limit s
    → (kind : Kind) (i j : ℕ) → not_there s kind i j ≡ false → shares s kind i j ≡ false → AnswersAsDemanded s kind i j
demand2_first_range = demand2_answers contact_limit (lit≤ tt)

-- 'The list holds exactly the pairs without a shared vertex whose swept boxes meet, in order.'
pub record ListAsDemanded (s : Scene) (l : List Pair) : Type 0 where
  pub exactly : Lists Earlier (ToList s) l
  pub only : (k : List Pair) → Lists Earlier (ToList s) k → k ≡ l
  pub once : (i j : ℕ) (d : Pair) → i < length l → j < length l → get_or l i d ≡ get_or l j d → i ≡ j

pub demand2_list : (s : Scene) → ListAsDemanded s (pairs s)
demand2_list s = record { exactly = list_is s; only = list_only s; once = list_once s }

-- 'A culled pair, one that shares no vertex and whose boxes don't meet, touches at no rational time under straight motion, nor in any piece.'
pub record ApartAsDemanded (s : Scene) (kind : Kind) (i j : ℕ) : Type 0 where
  pub in_motion : ¬ TouchInMotion s kind i j
  pub in_pieces : (k : ℕ) → ¬ Touches (piece_of s kind i j k)
  pub in_rationals : (k : ℕ) → ¬ Meets (piece_of s kind i j k)
  pub not_hit : ¬ PairSettled s kind i j Words.TheVariants.Hit
  pub not_touch : ¬ PairSettled s kind i j Words.TheVariants.Touch

pub demand2_culled : (s : Scene) (kind : Kind) (i j : ℕ) → shares s kind i j ≡ false → boxes_meet s kind i j ≡ false → ApartAsDemanded s kind i j
demand2_culled s kind i j apart away =
    let c : culled s kind i j ≡ true = rw (apart, away) in
    record {
      in_motion = culled_apart_in_motion s kind i j c;
      in_pieces = culled_apart s kind i j c;
      in_rationals = λ k m. culled_apart s kind i j c k ((touch_rational (piece_of s kind i j k).first (piece_of s kind i j k).second).1 m);
      not_hit = (culled_never_meets s kind i j c).0;
      not_touch = (culled_never_meets s kind i j c).1;
    }

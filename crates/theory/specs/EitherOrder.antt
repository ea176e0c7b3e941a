-- An ee pair may be asked for in either order, with the same answer.
use Rattle.std.specs.Prelude.{◌≡◌, refl, ◌↔◌, Bool, true, false, cond, ◌||◌, List, [], ◌∷◌, ℕ, leb, Result}
use Rattle.std.proofs.Common.{ap}
use Rattle.std.proofs.Math.Bool.{or_comm, and_comm}
use Rattle.std.proofs.Math.Nat.{min_comm, max_comm}
use Rattle.std.specs.Int.Signed.{le_z}
use Rattle.meaning.specs.Scene.{Scene, edge_count, edge_end, same}
use Rattle.meaning.specs.Pieces.{piece_of}
use Rattle.meaning.specs.Verdicts.{PairIs}
use Rattle.meaning.specs.Refusals.{Outcome, given, refused, Check, Answers, not_there, shares, pair_checks, PairJudged, PieceJudged, outcome_alone}
use Rattle.meaning.specs.Resting.{PairSettled, PairDecided, PieceDecided}
use Rattle.meaning.specs.Boxes.{Axis, x_axis, y_axis, z_axis, edge_span, meet_on, listed, culled}
use Rattle.meaning.specs.declared.Kind.TheVariants.{EdgeEdge}
use Rattle.meaning.specs.declared.Verdict.{Verdict}
use Rattle.meaning.specs.declared.Settled.{Settled}
use Rattle.theory.specs.Alike.{alike_same, piece_for_piece, alike_pair, alike_pair_word}
use Rattle.theory.specs.Written.{same_either_way}
use Rattle.meaning.specs.declared.Refusal.{Refusal}

-- an answer stays right where what is right of a value follows
pub answers_imp : {A : Type 0} (ks : List Check) (R S : A → Type 0) → ((a : A) → R a → S a) → (o : Outcome A) → Answers ks R o → Answers ks S o
unfolding Answers
answers_imp [] R S i (given a) h = i a h
answers_imp [] R S i (refused n c) h = h
answers_imp (k ∷ ks) R S i o h = go k.holds h (answers_imp ks R S i o)
  where
    go : (c : Bool) → cond c (o ≡ refused k.number k.carries) (Answers ks R o) → (Answers ks R o → Answers ks S o) → cond c (o ≡ refused k.number k.carries) (Answers ks S o)
    go true h f = h
    go false h f = f h

middle_exchanged : (x y z w : Bool) → (x || y || z || w) ≡ (x || z || y || w)
middle_exchanged true y z w = refl
middle_exchanged false y z w = ap (λ b. b || w) (or_comm y z)

module _ (s : Scene) (i j : ℕ) where
  pub piece_either_order : (k : ℕ) → piece_of s EdgeEdge i j k ≡ piece_of s EdgeEdge j i k
  unfolding piece_of
  piece_either_order k = rw (min_comm i j, max_comm i j)

  pub pair_either_order : (v : Verdict) → PairIs s EdgeEdge i j v ↔ PairIs s EdgeEdge j i v
  pair_either_order v = alike_pair EdgeEdge s s i j j i (piece_for_piece (λ k h. alike_same (piece_either_order k))) v

  pub shares_either_order : shares s EdgeEdge i j ≡ shares s EdgeEdge j i
  unfolding shares
  shares_either_order =
      rw (same_either_way s (edge_end s j 0) (edge_end s i 0), same_either_way s (edge_end s j 0) (edge_end s i 1), same_either_way s (edge_end s j 1) (edge_end s i 0), same_either_way s (edge_end s j 1) (edge_end s i 1))
      (middle_exchanged (same s (edge_end s i 0) (edge_end s j 0)) (same s (edge_end s i 0) (edge_end s j 1)) (same s (edge_end s i 1) (edge_end s j 0)) (same s (edge_end s i 1) (edge_end s j 1)))

  pub not_there_either_order : not_there s EdgeEdge i j ≡ not_there s EdgeEdge j i
  unfolding not_there
  not_there_either_order = or_comm (leb (edge_count s) i) (leb (edge_count s) j)

  pub meet_either_order : (a : Axis) → meet_on s EdgeEdge i j a ≡ meet_on s EdgeEdge j i a
  unfolding meet_on
  meet_either_order a = and_comm (le_z (edge_span s a i).low (edge_span s a j).high) (le_z (edge_span s a j).low (edge_span s a i).high)

  pub listed_either_order : listed s EdgeEdge i j ≡ listed s EdgeEdge j i
  listed_either_order = rw (shares_either_order, meet_either_order x_axis, meet_either_order y_axis, meet_either_order z_axis)

  pub culled_either_order : culled s EdgeEdge i j ≡ culled s EdgeEdge j i
  culled_either_order = rw (shares_either_order, meet_either_order x_axis, meet_either_order y_axis, meet_either_order z_axis)

  pub answer_either_order : (r : Result Verdict Refusal) → PairJudged s EdgeEdge i j r → PairJudged s EdgeEdge j i r
  answer_either_order r h =
      rw (← not_there_either_order, ← shares_either_order)
      (answers_imp (pair_checks s EdgeEdge i j) (PairIs s EdgeEdge i j) (PairIs s EdgeEdge j i) (λ v. (pair_either_order v).0) (outcome_alone r) h)

  pub piece_answer_either_order : (k : ℕ) (r : Result Verdict Refusal) → PieceJudged s EdgeEdge i j k r → PieceJudged s EdgeEdge j i k r
  piece_answer_either_order k r h = rw (← not_there_either_order, ← shares_either_order, ← piece_either_order k) h

  pub word_either_order : (w : Settled) → PairSettled s EdgeEdge i j w ↔ PairSettled s EdgeEdge j i w
  word_either_order w = alike_pair_word EdgeEdge s s i j j i (piece_for_piece (λ k h. alike_same (piece_either_order k))) w

  pub settled_either_order : (r : Result Settled Refusal) → PairDecided s EdgeEdge i j r → PairDecided s EdgeEdge j i r
  settled_either_order r h =
      rw (← not_there_either_order, ← shares_either_order)
      (answers_imp (pair_checks s EdgeEdge i j) (PairSettled s EdgeEdge i j) (PairSettled s EdgeEdge j i) (λ w. (word_either_order w).0) (outcome_alone r) h)

  pub piece_settled_either_order : (k : ℕ) (r : Result Settled Refusal) → PieceDecided s EdgeEdge i j k r → PieceDecided s EdgeEdge j i k r
  piece_settled_either_order k r h = rw (← not_there_either_order, ← shares_either_order, ← piece_either_order k) h

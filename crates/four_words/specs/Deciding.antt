-- The answer in four words, from the answer in three: a refusal stays, and where a verdict was given no check holds.
use Rattle.std.specs.Prelude.{ℕ, Bool, false, ◌||◌, ◌≡◌, leb, Err, Ok, Result}
use mathlib.Core.List.{List, [], ◌++◌}
use Rattle.std.proofs.Math.Path.{subst}
use Rattle.meaning.specs.Scene.{Scene, Accepted}
use Rattle.meaning.specs.Pieces.{piece_of, piece_count}
use Rattle.meaning.specs.Refusals.{Check, given, refused, number_of, not_there, shares, Answers, scene_checks, PairJudged, PieceJudged, outcome_alone}
use Rattle.meaning.specs.Verdicts.{PieceIs, PairIs}
use Rattle.meaning.specs.Resting.{PieceSettled, PairSettled, PairDecided, PieceDecided}
use Rattle.meaning.specs.declared.Kind.{Kind}
use Rattle.meaning.specs.declared.Refusal.{Refusal}
use Rattle.meaning.specs.declared.Verdict.{Verdict}
use Rattle.meaning.specs.declared.Settled.{Settled}
use Rattle.answers.specs.Below.{or_left}
use Rattle.answers.specs.Answering.{is_given, gives, refused_before, given_before}
use Rattle.three_words.specs.Asked.{asked_checks}

module _ (s : Scene) (five six : Bool) (R : Verdict → Type 0) (S : Settled → Type 0) (r : Result Verdict Refusal) (said : Answers (scene_checks s ++ asked_checks five six) R (outcome_alone r)) where
  abbrev checks : List Check
  checks = scene_checks s ++ asked_checks five six

  answered : {v : Verdict} → r ≡ Ok v → Answers checks R (given v)
  unfolding outcome_alone
  answered e = subst (λ (x : Result Verdict Refusal). Answers checks R (outcome_alone x)) e said

  right : {v : Verdict} → Answers [] R (given v) → R v
  unfolding Answers
  right a = a

  was_given : {v : Verdict} → r ≡ Ok v → Accepted s × (five ≡ false) × R v
  was_given {v} e =
      let (h1, a1) = is_given R _ _ v (answered e) in
      let (h2, a2) = is_given R _ _ v a1 in
      let (h3, a3) = is_given R _ _ v a2 in
      let (h4, a4) = is_given R _ _ v a3 in
      let (h5, a5) = is_given R _ _ v a4 in
      let (h6, a6) = is_given R _ _ v a5 in
      let (h7, a7) = is_given R _ _ v a6 in
      (record { shapely = h1; in_range = h2; known = h3; sewn_well = h4; distinct = h5 }, h6, right a7)

  word_given : {v : Verdict} → r ≡ Ok v → (w : Settled) → S w → Answers checks S (given w)
  word_given {v} e w h = given_before R S checks [] v (given w) (answered e) (gives S w h)

  still_refused : {x : Refusal} → r ≡ Err x → Answers checks S (refused (number_of x) 0)
  unfolding outcome_alone
  still_refused {x} e =
      refused_before R S checks [] (number_of x) 0 (subst (λ (x : Result Verdict Refusal). Answers checks R (outcome_alone x)) e said)

-- ---- of a pair

module _ (s : Scene) (kind : Kind) (i j : ℕ) (r : Result Verdict Refusal) (said : PairJudged s kind i j r) where
  abbrev five : Bool
  five = not_there s kind i j

  pub pair_given : {v : Verdict} → r ≡ Ok v → Accepted s × (not_there s kind i j ≡ false) × PairIs s kind i j v
  pair_given = was_given s five (shares s kind i j) (PairIs s kind i j) (PairSettled s kind i j) r said

  pub pair_decided : {v : Verdict} → r ≡ Ok v → (w : Settled) → PairSettled s kind i j w → PairDecided s kind i j (Ok w)
  unfolding outcome_alone
  pair_decided = word_given s five (shares s kind i j) (PairIs s kind i j) (PairSettled s kind i j) r said

  pub pair_refused : {x : Refusal} → r ≡ Err x → PairDecided s kind i j (Err x)
  unfolding outcome_alone
  pair_refused = still_refused s five (shares s kind i j) (PairIs s kind i j) (PairSettled s kind i j) r said

-- ---- of a piece

module _ (s : Scene) (kind : Kind) (i j k : ℕ) (r : Result Verdict Refusal) (said : PieceJudged s kind i j k r) where
  abbrev five_here : Bool
  five_here = not_there s kind i j || leb (piece_count kind) k

  pub piece_given : {v : Verdict} → r ≡ Ok v → Accepted s × (not_there s kind i j ≡ false) × PieceIs (piece_of s kind i j k) v
  piece_given e =
      let g = was_given s five_here (shares s kind i j) (PieceIs (piece_of s kind i j k)) (PieceSettled (piece_of s kind i j k)) r said e in
      (g.0, or_left (not_there s kind i j) (leb (piece_count kind) k) g.1, g.2)

  pub piece_decided : {v : Verdict} → r ≡ Ok v → (w : Settled) → PieceSettled (piece_of s kind i j k) w → PieceDecided s kind i j k (Ok w)
  unfolding outcome_alone
  piece_decided = word_given s five_here (shares s kind i j) (PieceIs (piece_of s kind i j k)) (PieceSettled (piece_of s kind i j k)) r said

  pub piece_refused : {x : Refusal} → r ≡ Err x → PieceDecided s kind i j k (Err x)
  unfolding outcome_alone
  piece_refused = still_refused s five_here (shares s kind i j) (PieceIs (piece_of s kind i j k)) (PieceSettled (piece_of s kind i j k)) r said

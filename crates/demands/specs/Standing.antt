-- 'A pair is culled when it shares no vertex number and isn't listed', by the vertex stood for: whether a pair that is asked for stands in the list. And 'an edge with
-- itself too': it is refused 6.
use Prim.Native.Nat.{ℕ, min, max, ◌<◌}
use Rattle.std.specs.Prelude.{Bool, true, false, not, ◌||◌, ◌↔◌, ◌≡◌, refl, leb, Result}
use Rattle.std.proofs.Common.{true≢false, sym, ◌∙◌, eq-eqb}
use mathlib.Core.List.{Memᴰ}
use native.Mathlib.Omega.{arith}
use Rattle.std.proofs.Math.Decide.{dec_lt}
use Rattle.std.proofs.lemmas.Bool.{lt-leb, not-true}
use Rattle.sequences.specs.Pick.{both}
use Rattle.meaning.specs.Scene.{Scene, Accepted, edge_count, edge_end, counts_as}
use Rattle.meaning.specs.Pieces.{piece_count}
use Rattle.meaning.specs.Refusals.{Outcome, refused, not_there, shares, PairJudged, PieceJudged, outcome_alone}
use Rattle.meaning.specs.Resting.{PairDecided, PieceDecided}
use Rattle.meaning.specs.Boxes.{boxes_meet, listed, culled}
use Rattle.meaning.specs.List.{Pair, pair, pairs}
use Rattle.meaning.specs.declared.Kind.{Kind}
use Rattle.meaning.specs.declared.Kind.TheVariants.{PointTriangle, EdgeEdge}
use Rattle.theory.specs.EitherOrder.{listed_either_order, not_there_either_order}
use Rattle.list_pairs.specs.InOrder.{FirstBelow, tests, list_is}
use Rattle.demands.specs.Demand1.{AskedTable, demand1_pair, demand1_piece, demand1_settled_pair, demand1_settled_piece}
use Rattle.meaning.specs.declared.Refusal.{Refusal}
use Rattle.meaning.specs.declared.Settled.{Settled}
use Rattle.meaning.specs.declared.Verdict.{Verdict}

-- the pair as the list writes it: of two edges the lower place first
unfoldable pub as_listed : Kind → ℕ → ℕ → Pair
as_listed PointTriangle i j = pair PointTriangle i j
as_listed EdgeEdge i j = pair EdgeEdge (min i j) (max i j)

abbrev pub Stands : Scene → Kind → ℕ → ℕ → Type 0
Stands s kind i j = Memᴰ (as_listed kind i j) (pairs s)

module _ (s : Scene) where
  in_order : (kind : Kind) (i j : ℕ) → not_there s kind i j ≡ false → FirstBelow kind i j → Memᴰ (pair kind i j) (pairs s) ↔ (listed s kind i j ≡ true)
  in_order kind i j there ordered = (
    λ m. let p = ((list_is s).stands (pair kind i j)).0 m in rw (p.apart, p.meet),
    λ h. let (a, b) = tests s kind i j h in ((list_is s).stands (pair kind i j)).1 (record { there = there; ordered = ordered; apart = a; meet = b }),
  )

  -- 'an edge with itself too': it shares its vertices
  pub edge_shares_itself : (i : ℕ) → shares s EdgeEdge i i ≡ true
  unfolding shares
  edge_shares_itself i = rw (eq-eqb (counts_as s (edge_end s i 0)) (counts_as s (edge_end s i 0)) refl)

  -- a pair that is there stands in the list exactly when it shares no vertex and its boxes meet, in whichever order it is asked for
  pub stands_is : (kind : Kind) (i j : ℕ) → not_there s kind i j ≡ false → Stands s kind i j ↔ (listed s kind i j ≡ true)
  unfolding as_listed FirstBelow
  stands_is PointTriangle i j there = in_order PointTriangle i j there tt
  stands_is EdgeEdge i j there = go (dec_lt i j) (dec_lt j i)
    where
      go : Dec (i < j) → Dec (j < i) → Memᴰ (pair EdgeEdge (min i j) (max i j)) (pairs s) ↔ (listed s EdgeEdge i j ≡ true)
      go (yes h) d = let a : min i j ≡ i = omega arith in let b : max i j ≡ j = omega arith in rw (a, b) (in_order EdgeEdge i j there h)
      go (no h) (yes k) =
          let a : min i j ≡ j = omega arith in
          let b : max i j ≡ i = omega arith in
          rw (a, b, listed_either_order s i j) (in_order EdgeEdge j i (sym (not_there_either_order s i j) ∙ there) k)
      go (no h) (no k) =
          let e : i ≡ j = omega arith in (
            λ m. absurd (let p = ((list_is s).stands (pair EdgeEdge (min i j) (max i j))).0 m in omega (arith, p.ordered)),
            λ t. absurd (true≢false (sym (rw e (edge_shares_itself j)) ∙ (tests s EdgeEdge i j t).0)),
          )

  -- culled: it shares no vertex, and it isn't listed
  pub culled_is : (kind : Kind) (i j : ℕ) → not_there s kind i j ≡ false → (culled s kind i j ≡ true) ↔ ((shares s kind i j ≡ false) × ¬ Stands s kind i j)
  culled_is kind i j there = (
    λ c.
        let (a, b) = both (not (shares s kind i j)) (not (boxes_meet s kind i j)) c in
        (not-true (shares s kind i j) a, λ m. true≢false (sym (tests s kind i j ((stands_is kind i j there).0 m)).1 ∙ not-true (boxes_meet s kind i j) b)),
    λ h. go (boxes_meet s kind i j) refl h.0 h.1,
  )
    where
      go : (b : Bool) → boxes_meet s kind i j ≡ b → shares s kind i j ≡ false → ¬ Stands s kind i j → culled s kind i j ≡ true
      go true e a n = absurd (n ((stands_is kind i j there).1 (rw (a, e))))
      go false e a n = rw (a, e)

-- ---- an edge asked for with itself is refused 6, for the pair and for each piece, in three words and in four

module _ {s : Scene} (a : Accepted s) (i : ℕ) (below : i < edge_count s) where
  itself_there : not_there s EdgeEdge i i ≡ false
  unfolding not_there
  itself_there = rw (lt-leb (edge_count s) i below)

  piece_there : (k : ℕ) → k < piece_count EdgeEdge → not_there s EdgeEdge i i || leb (piece_count EdgeEdge) k ≡ false
  piece_there k few = rw (itself_there, lt-leb (piece_count EdgeEdge) k few)

  -- its place is there, and it shares its vertices
  itself_refused : {W : Type 0} {missing : Bool} {Is : W → Type 0} {o : Outcome W} → missing ≡ false
      → AskedTable s missing (shares s EdgeEdge i i) Is o → o ≡ refused 6 0
  itself_refused there p = p.no6.1 (a, (there, edge_shares_itself s i))

  pub pair_with_itself : (r : Result Verdict Refusal) → PairJudged s EdgeEdge i i r → outcome_alone r ≡ refused 6 0
  pair_with_itself r p = itself_refused itself_there (demand1_pair s EdgeEdge i i r p)

  pub piece_with_itself : (k : ℕ) → k < piece_count EdgeEdge → (r : Result Verdict Refusal) → PieceJudged s EdgeEdge i i k r → outcome_alone r ≡ refused 6 0
  piece_with_itself k few r p = itself_refused (piece_there k few) (demand1_piece s EdgeEdge i i k r p)

  pub word_with_itself : (r : Result Settled Refusal) → PairDecided s EdgeEdge i i r → outcome_alone r ≡ refused 6 0
  word_with_itself r p = itself_refused itself_there (demand1_settled_pair s EdgeEdge i i r p)

  pub piece_word_with_itself : (k : ℕ) → k < piece_count EdgeEdge → (r : Result Settled Refusal) → PieceDecided s EdgeEdge i i k r → outcome_alone r ≡ refused 6 0
  piece_word_with_itself k few r p = itself_refused (piece_there k few) (demand1_settled_piece s EdgeEdge i i k r p)

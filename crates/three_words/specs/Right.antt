-- What `exact` computes of a piece is right by what `theory` says of the same numbers.
use Prim.Native.Nat.{ℕ, zero, suc, ◌+◌, ◌*◌, ◌-◌, ◌<◌}
use Rattle.std.specs.Prelude.{◌≡◌, refl, Bool, true, false, not, cond, ◌&&◌, List, [], ◌∷◌, map, ltb, pos, neg_ℤ, ◌+ℤ◌}
use Rattle.std.proofs.Common.{sym, ap, ◌∙◌, arith, lt-ltb}
use Rattle.std.proofs.Math.Path.{subst}
use Rattle.std.proofs.Math.IntN.{ℤ}
use Rattle.whole.specs.Cramer.{Four, volumes, all, each}
use Rattle.whole.specs.Quote.{ring, quotes}
use Rattle.whole.specs.Signs.{sgn, agree, is_nought}
use Rattle.meaning.specs.Scene.{Scene, scene_of}
use Rattle.meaning.specs.Pieces.{moving_point, moving_triangle, moving_edge}
use Rattle.meaning.specs.Verdicts.{PieceIs}
use Rattle.meaning.specs.declared.Ends.{Ends}
use Rattle.meaning.specs.declared.Corners.{Corners}
use Rattle.meaning.specs.declared.Verdict.{Verdict}
use Rattle.meaning.specs.declared.Verdict.TheVariants.{Hit, Miss, Degenerate}
use Rattle.exact_signs.specs.BySigns.{all_agree, by_signs, sum, keep, kept, point_verdict, edge_verdict}
use Rattle.exact.specs.Volumes.{four, volumes_at, Rooms, four_of, Holds, holds_same}
use Rattle.exact.specs.declared.Volumes.{Volumes}
use Rattle.theory.specs.Reading.{agreeing, verdict_of}
use Rattle.theory.specs.Computed.{point_differences, edge_differences, start_sum, end_sum, edge_numbers}
use Rattle.theory.specs.Computed as Computed
use Rattle.three_words.specs.Ready.{EdgesReady}
use Rattle.theory.proofs.SevenPieces.{judged_point, judged_edge}

-- the two ways to read a verdict off signs are one
pub reading_is : (d : ℤ) (l : List ℤ) → by_signs d l ≡ verdict_of (sgn d) (map sgn l)
unfolding by_signs verdict_of agreeing
reading_is d l = ap (λ (b : Bool). cond (is_nought (sgn d)) Degenerate (cond b Hit Miss)) (same l)
  where
    same : (l : List ℤ) → all_agree d l ≡ agreeing (sgn d) (map sgn l)
    same [] = refl
    same (e ∷ l) = ap (λ (b : Bool). agree (sgn d) (sgn e) && b) (same l)

-- which of the four points of piece i against piece j are at the end
unfoldable pub flags : ℕ → ℕ → Four Bool
flags zero zero = four false false false true
flags zero (suc j) = four false false true true
flags (suc i) zero = four true false false true
flags (suc i) (suc j) = four true false true true

starts_are : (i j : ℕ) (E : Four ℤ) → sum (kept (each not (flags i j)) E) ≡ start_sum i j E
unfolding flags keep start_sum
starts_are zero zero E = ring (all E) (search quotes depth 40 fits 9000) refl
starts_are zero (suc j) E = ring (all E) (search quotes depth 40 fits 9000) refl
starts_are (suc i) zero E = ring (all E) (search quotes depth 40 fits 9000) refl
starts_are (suc i) (suc j) E = ring (all E) (search quotes depth 40 fits 9000) refl

ends_are : (i j : ℕ) (E : Four ℤ) → sum (kept (flags i j) E) ≡ end_sum i j E
unfolding flags keep end_sum
ends_are zero zero E = ring (all E) (search quotes depth 40 fits 9000) refl
ends_are zero (suc j) E = ring (all E) (search quotes depth 40 fits 9000) refl
ends_are (suc i) zero E = ring (all E) (search quotes depth 40 fits 9000) refl
ends_are (suc i) (suc j) E = ring (all E) (search quotes depth 40 fits 9000) refl

edge_reading : (i j : ℕ) (E : Four ℤ) → edge_verdict (flags i j) E ≡ Computed.edge_verdict i j E
unfolding edge_verdict
edge_reading i j E =
    reading_is (E.v1 +ℤ E.v2 +ℤ E.v3)
    (neg_ℤ E.v0 ∷ E.v1 ∷ E.v2 ∷ E.v3 ∷ sum (kept (each not (flags i j)) E) ∷ sum (kept (flags i j) E) ∷ [])
    ∙ (λ t. verdict_of (sgn (E.v1 +ℤ E.v2 +ℤ E.v3))
    (map sgn (neg_ℤ E.v0 ∷ E.v1 ∷ E.v2 ∷ E.v3 ∷ starts_are i j E t ∷ ends_are i j E t ∷ [])))

above_none : (k : ℕ) → ltb 0 (suc k) ≡ true
above_none k = lt-ltb 0 (suc k) (omega arith)

-- the places of the four points of piece B or A of one edge against that of another, and those from which they are seen
abbrev pub edge_places : Ends → Ends → Bool → Bool → Four ℕ
edge_places e f a b = four (cond a (6 * e.low + 3) (6 * e.high)) (6 * f.low) (cond b (6 * f.low + 3) (6 * f.high)) (6 * f.high + 3)

abbrev pub edge_bases : Ends → Bool → Bool → Four ℕ
edge_bases e a b = four (cond a (6 * e.high + 3) (6 * e.low)) (6 * e.low) (cond b (6 * e.high + 3) (6 * e.low)) (6 * e.high + 3)

pub edges_roomy : {ps : List ℤ} {e f : Ends} → EdgesReady ps e f → (a b : Bool) → Rooms ps (edge_places e f a b) (edge_bases e a b)
edges_roomy r true true = omega (arith, r)
edges_roomy r true false = omega (arith, r)
edges_roomy r false true = omega (arith, r)
edges_roomy r false false = omega (arith, r)

module _ (s : Scene) where
  pub point_right : (p : ℕ) (c : Corners) (k : ℕ) (v : Verdict) → v ≡ point_verdict (volumes (point_differences s p c k))
      → PieceIs (record { first = moving_point s.positions p; second = moving_triangle s.positions c k }) v
  unfolding point_verdict
  point_right p c k v h =
      let E : Four ℤ = volumes (point_differences s p c k) in
      subst (PieceIs (record { first = moving_point s.positions p; second = moving_triangle s.positions c k }))
      (sym (h ∙ reading_is (sum E) (all E))) (judged_point s p c k)

  pub edges_right : (e : Ends) (i : ℕ) (f : Ends) (j : ℕ) (v : Verdict)
      → v ≡ edge_verdict (flags i j) (volumes (edge_differences s e i f j))
      → PieceIs (record { first = moving_edge s.positions e i; second = moving_edge s.positions f j }) v
  edges_right e i f j v h =
      subst (PieceIs (record { first = moving_edge s.positions e i; second = moving_edge s.positions f j }))
      (sym (h ∙ edge_reading i j (volumes (edge_differences s e i f j)))) (judged_edge s e i f j)

  -- as code asks: which points stand between a start and an end is a test of the pieces' numbers
  pub edges_asked : (e : Ends) (i : ℕ) (f : Ends) (j : ℕ) (a b : Bool) → a ≡ ltb 0 i → b ≡ ltb 0 j → (v : Verdict)
      → v ≡ edge_verdict (four a false b true) (volumes_at s.positions (edge_places e f a b) (edge_bases e a b))
      → PieceIs (record { first = moving_edge s.positions e i; second = moving_edge s.positions f j }) v
  unfolding flags edge_differences
  edges_asked e zero f zero a b p q v h = edges_right e 0 f 0 v (rw (p, q) at h)
  edges_asked e zero f (suc j) a b p q v h = edges_right e 0 f (suc j) v (rw (p, q ∙ above_none j) at h)
  edges_asked e (suc i) f zero a b p q v h = edges_right e (suc i) f 0 v (rw (p ∙ above_none i, q) at h)
  edges_asked e (suc i) f (suc j) a b p q v h = edges_right e (suc i) f (suc j) v (rw (p ∙ above_none i, q ∙ above_none j) at h)

  -- the same of volumes that the machine holds
  pub point_held : (p : ℕ) (c : Corners) (k : ℕ) {w : Volumes} (v : Verdict) → Holds w (volumes (point_differences s p c k)) → v ≡ point_verdict (four_of w)
      → PieceIs (record { first = moving_point s.positions p; second = moving_triangle s.positions c k }) v
  point_held p c k v h e = point_right p c k v (e ∙ ap point_verdict (holds_same h))

  pub edges_held : (e : Ends) (i : ℕ) (f : Ends) (j : ℕ) {w : Volumes} (v : Verdict) → Holds w (volumes (edge_differences s e i f j))
      → v ≡ edge_verdict (flags i j) (four_of w)
      → PieceIs (record { first = moving_edge s.positions e i; second = moving_edge s.positions f j }) v
  edges_held e i f j v h q = edges_right e i f j v (q ∙ ap (edge_verdict (flags i j)) (holds_same h))

-- a piece's number is 0, or 1, or more: the code's tests
module _ (P : ℕ → Type 0) (k : ℕ) where
  pub at_none : k ≡ 0 → P 0 → P k
  at_none e h = rw e h

  pub at_one : k ≡ 1 → P 1 → P k
  at_one e h = rw e h

  pub at_more : (k ≡ 0 → ⊥) → (k ≡ 1 → ⊥) → ((m : ℕ) → P (suc (suc m))) → P k
  at_more n o h =
      let e : k ≡ suc (suc (k - 2)) = omega arith in
      rw e (h (k - 2))

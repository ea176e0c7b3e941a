-- The six points of a piece of a pair: how code makes them, and that what the search asks of them holds.
use Rattle.std.specs.Prelude.{ℕ, zero, suc, ◌+◌, ◌*◌, ◌/◌, ◌%◌, min, max, ◌≤◌, ◌<◌, ◌≡◌, refl, Bool, true, false, cond, List, [], ◌∷◌, ltb, ℤ, length}
use Rattle.std.proofs.Common.{sym, ◌∙◌, ap, subst, lt_of_lt_of_le, arith, lt-ltb}
use Rattle.meaning.specs.Scene.{Scene, ends_of, corners_of}
use Rattle.meaning.specs.Pieces.{piece_of}
use Rattle.meaning.specs.Refusals.{not_there}
use Rattle.meaning.specs.Verdicts.{PieceIs}
use Rattle.meaning.specs.Resting.{PieceSettled}
use Rattle.meaning.specs.declared.Ends.{Ends}
use Rattle.meaning.specs.declared.Corners.{Corners}
use Rattle.meaning.specs.declared.Kind.{Kind}
use Rattle.meaning.specs.declared.Kind.TheVariants.{PointTriangle, EdgeEdge}
use Rattle.meaning.specs.declared.Verdict.{Verdict}
use Rattle.meaning.specs.declared.Settled.{Settled}
use Rattle.scene_checks.specs.Facts.{sound_limit, Sound}
use Rattle.three_words.specs.Ready.{PointReady, EdgesReady}
use Rattle.three_words.specs.Pairs.{pt_ready, ee_ready}
use Rattle.corner_leaf.specs.declared.SixPoints.{SixPoints}
use Rattle.corner_leaf.specs.Points.{offset, piece_at, SixIn}
use Rattle.corner_search.specs.Sixes.{point_six, edges_six, six_of, six_piece, point_timed, edges_timed}

-- ---- as code makes them: which vertex stands between a start and an end is a test of the piece's number

-- between the lower vertex at the start and the higher at the end: the lower at the end, or the higher at the start
abbrev pub between : ℕ → ℕ → Bool → ℕ
between low high end = cond end (6 * low + 3) (6 * high)

abbrev pub point_tested : ℕ → Corners → ℕ → SixPoints
point_tested p c k =
    record {
      at = (6 * p) ∷ (6 * p + 3) ∷ (6 * c.low) ∷ between c.low c.middle (ltb 1 k) ∷ between c.middle c.high (ltb 0 k) ∷ (6 * c.high + 3) ∷ [];
      ends = false ∷ true ∷ false ∷ ltb 1 k ∷ ltb 0 k ∷ true ∷ [];
      first = 2;
    }

abbrev pub edges_tested : Ends → ℕ → Ends → ℕ → SixPoints
edges_tested e i f j =
    record {
      at = (6 * e.low) ∷ between e.low e.high (ltb 0 i) ∷ (6 * e.high + 3) ∷ (6 * f.low) ∷ between f.low f.high (ltb 0 j) ∷ (6 * f.high + 3) ∷ [];
      ends = false ∷ ltb 0 i ∷ true ∷ false ∷ ltb 0 j ∷ true ∷ [];
      first = 3;
    }

above_none : (k : ℕ) → ltb 0 (suc k) ≡ true
above_none k = lt-ltb 0 (suc k) (omega arith)

above_one : (k : ℕ) → ltb 1 (suc (suc k)) ≡ true
above_one k = lt-ltb 1 (suc (suc k)) (omega arith)

pub point_tested_lem : (p : ℕ) (c : Corners) (k : ℕ) → point_tested p c k ≡ point_six p c k
unfolding point_six
point_tested_lem p c zero = refl
point_tested_lem p c (suc zero) = refl
point_tested_lem p c (suc (suc k)) = rw (above_one k, above_none (suc k)) refl

pub edges_tested_lem : (e : Ends) (i : ℕ) (f : Ends) (j : ℕ) → edges_tested e i f j ≡ edges_six e i f j
unfolding edges_six
edges_tested_lem e zero f zero = refl
edges_tested_lem e zero f (suc j) = rw (above_none j) refl
edges_tested_lem e (suc i) f zero = rw (above_none i) refl
edges_tested_lem e (suc i) f (suc j) = rw (above_none i, above_none j) refl

-- vertex numbers that leave room for 6 v + 3
pub record PointFew (p : ℕ) (c : Corners) : Type 0 where
  pub point : p < sound_limit
  pub low : c.low < sound_limit
  pub middle : c.middle < sound_limit
  pub high : c.high < sound_limit

pub record EdgesFew (e f : Ends) : Type 0 where
  pub low : e.low < sound_limit
  pub high : e.high < sound_limit
  pub other_low : f.low < sound_limit
  pub other_high : f.high < sound_limit

-- ---- each of them stands in the positions

between_room : {n : ℕ} (low high : ℕ) (end : Bool) → low < n / 6 → high < n / 6 → between low high end + 3 ≤ n
between_room low high true h k = omega arith
between_room low high false h k = omega arith

module _ {ps : List ℤ} where
  point_six_in : {p : ℕ} {c : Corners} (k : ℕ) → PointReady ps p c → SixIn ps (point_six p c k)
  point_six_in {p} {c} k h =
      record {
        bounded = h.bounded;
        room = subst (λ (six : SixPoints). (i : ℕ) → i < 6 → offset six i + 3 ≤ length ps) (point_tested_lem p c k) room;
        timed = point_timed p c k;
      }
    where
      room : (i : ℕ) → i < 6 → offset (point_tested p c k) i + 3 ≤ length ps
      room zero l = omega (arith, h.point)
      room (suc zero) l = omega (arith, h.point)
      room (suc (suc zero)) l = omega (arith, h.low)
      room (suc (suc (suc zero))) l = between_room c.low c.middle (ltb 1 k) h.low h.middle
      room (suc (suc (suc (suc zero)))) l = between_room c.middle c.high (ltb 0 k) h.middle h.high
      room (suc (suc (suc (suc (suc zero))))) l = omega (arith, h.high)
      room (suc (suc (suc (suc (suc (suc i)))))) l = absurd (omega arith)

  edges_six_in : {e f : Ends} (i j : ℕ) → EdgesReady ps e f → SixIn ps (edges_six e i f j)
  edges_six_in {e} {f} i j h =
      record {
        bounded = h.bounded;
        room = subst (λ (six : SixPoints). (m : ℕ) → m < 6 → offset six m + 3 ≤ length ps) (edges_tested_lem e i f j) room;
        timed = edges_timed e i f j;
      }
    where
      room : (m : ℕ) → m < 6 → offset (edges_tested e i f j) m + 3 ≤ length ps
      room zero l = omega (arith, h.low)
      room (suc zero) l = between_room e.low e.high (ltb 0 i) h.low h.high
      room (suc (suc zero)) l = omega (arith, h.high)
      room (suc (suc (suc zero))) l = omega (arith, h.other_low)
      room (suc (suc (suc (suc zero)))) l = between_room f.low f.high (ltb 0 j) h.other_low h.other_high
      room (suc (suc (suc (suc (suc zero))))) l = omega (arith, h.other_high)
      room (suc (suc (suc (suc (suc (suc m)))))) l = absurd (omega arith)

-- ---- the piece of a pair that is asked for

module _ (s : Scene) where
  pub six_in : Sound s → (kind : Kind) (i j k : ℕ) → not_there s kind i j ≡ false → SixIn s.positions (six_of s kind i j k)
  unfolding six_of
  six_in a PointTriangle i j k e = point_six_in k (pt_ready s i j a e)
  six_in a EdgeEdge i j k e = edges_six_in (k / 2) (k % 2) (ee_ready s i j a e)

  pub pt_few : Sound s → (i j : ℕ) → not_there s PointTriangle i j ≡ false → PointFew i (corners_of s j)
  pt_few a i j e =
      let r = pt_ready s i j a e in
      let n = a.few in
      record { point = lt_of_lt_of_le r.point n; low = lt_of_lt_of_le r.low n; middle = lt_of_lt_of_le r.middle n; high = lt_of_lt_of_le r.high n }

  pub ee_few : Sound s → (i j : ℕ) → not_there s EdgeEdge i j ≡ false → EdgesFew (ends_of s (min i j)) (ends_of s (max i j))
  ee_few a i j e =
      let r = ee_ready s i j a e in
      let n = a.few in
      record { low = lt_of_lt_of_le r.low n; high = lt_of_lt_of_le r.high n; other_low = lt_of_lt_of_le r.other_low n; other_high = lt_of_lt_of_le r.other_high n }

  -- what the search asks of its six points, and what it says of the piece
  module _ (kind : Kind) (i j k : ℕ) (six : SixPoints) (is : six ≡ six_of s kind i j k) where
    at_piece : piece_at s.positions six ≡ piece_of s kind i j k
    at_piece = ap (piece_at s.positions) is ∙ six_piece s kind i j k

    pub asked : Sound s → not_there s kind i j ≡ false → (v : Verdict) → PieceIs (piece_of s kind i j k) v → SixIn s.positions six × PieceIs (piece_at s.positions six) v
    asked a e v h = (subst (SixIn s.positions) (sym is) (six_in a kind i j k e), subst (λ p. PieceIs p v) (sym at_piece) h)

    pub settled : (w : Settled) → PieceSettled (piece_at s.positions six) w → PieceSettled (piece_of s kind i j k) w
    settled w h = subst (λ p. PieceSettled p w) at_piece h

  -- as code finds them
  pub pt_six : {kind : Kind} (i j k : ℕ) {c : Corners} {six : SixPoints} → kind ≡ PointTriangle → c ≡ corners_of s j → six ≡ point_six i c k → six ≡ six_of s kind i j k
  unfolding six_of
  pt_six i j k e f g = rw (e, ← f) g

  pub ee_six : {kind : Kind} (i j k : ℕ) {m n : ℕ} {a b : Ends} {six : SixPoints} → kind ≡ EdgeEdge → m ≡ min i j → a ≡ ends_of s m → n ≡ max i j → b ≡ ends_of s n → six ≡ edges_six a (k / 2) b (k % 2) → six ≡ six_of s kind i j k
  unfolding six_of
  ee_six i j k e p f q g h = rw (e, ← p, ← q, ← f, ← g) h

-- The tests decide the claim: they all pass exactly when the weights bear it out.
use Rattle.std.specs.Prelude.{ℕ, zero, suc, ◌≤◌, ◌<◌, Bool, ◌&&◌, List, ◌↔◌, ◌≡◌, refl, ℤ, pos, ◌≤ℤ◌}
use Rattle.std.proofs.Common.{arith, true≢false, sym, ◌∙◌, lit<, ltb-false, le-ltb}
use Rattle.std.proofs.Math.Bool.{true, false}
use Rattle.std.proofs.Math.Path.{subst}
use Rattle.std.proofs.Math.Dec.{T}
use Rattle.std.specs.Int.Signed.{le_z, lt_z, ≤ℤ_refl}
use Rattle.std.proofs.Math.Facts.{and_yes, yes_and}
use Rattle.whole.specs.Order.{ord}
use Rattle.meaning.specs.Limits.{weight_limit}
use Rattle.meaning.specs.Pieces.{Piece}
use Rattle.meaning.specs.Equations.{total}
use Rattle.meaning.specs.Claims.{weight_at, of_first_simplex, of_second_simplex, BorneOut, AnswerIs}
use Rattle.corner_leaf.specs.declared.SixPoints.{SixPoints}
use Rattle.corner_leaf.specs.Points.{piece_at}
use Rattle.answers.specs.Below.{or_left, or_rest}
use Rattle.claim_sums.specs.Sums.{heavy, Light, reading, side, agrees, passes}
use Rattle.claim_sums.specs.Sides.{side_first, side_second}

-- ---- the limit of a weight

pub light : (ws : List ℕ) → heavy ws ≡ false → Light ws
light ws e = record { at = at }
  where
    at : (i : ℕ) → i < 6 → weight_at ws i ≤ weight_limit
    at zero h = ltb-false weight_limit (weight_at ws 0) (search (or_left, or_rest))
    at (suc zero) h = ltb-false weight_limit (weight_at ws 1) (search (or_left, or_rest))
    at (suc (suc zero)) h = ltb-false weight_limit (weight_at ws 2) (search (or_left, or_rest))
    at (suc (suc (suc zero))) h = ltb-false weight_limit (weight_at ws 3) (search (or_left, or_rest))
    at (suc (suc (suc (suc zero)))) h = ltb-false weight_limit (weight_at ws 4) (search (or_left, or_rest))
    at (suc (suc (suc (suc (suc zero))))) h = ltb-false weight_limit (weight_at ws 5) (search (or_left, or_rest))
    at (suc (suc (suc (suc (suc (suc i)))))) h = absurd (omega arith)

-- a weight above its limit is answered no
pub heavy_no : (p : Piece) (ws : List ℕ) → heavy ws ≡ true → AnswerIs p ws false
unfolding AnswerIs
heavy_no p ws e b =
    true≢false
    (sym e ∙ rw (
      le-ltb weight_limit (weight_at ws 0) (b.light 0 (lit< tt)),
      le-ltb weight_limit (weight_at ws 1) (b.light 1 (lit< tt)),
      le-ltb weight_limit (weight_at ws 2) (b.light 2 (lit< tt)),
      le-ltb weight_limit (weight_at ws 3) (b.light 3 (lit< tt)),
      le-ltb weight_limit (weight_at ws 4) (b.light 4 (lit< tt)),
      le-ltb weight_limit (weight_at ws 5) (b.light 5 (lit< tt)),
    ) refl)

-- ---- each row

both_ways : (a b : ℤ) → T (le_z a b && le_z b a) ↔ (a ≡ b)
both_ways a b = (
  λ t.
      let (x, y) = and_yes (le_z a b) (le_z b a) t in
      let p : a ≤ℤ b = record { le = x } in
      let q : b ≤ℤ a = record { le = y } in
      omega (arith, ord),
  λ e. rw e (yes_and (le_z b b) (le_z b b) (≤ℤ_refl b).le (≤ℤ_refl b).le),
)

all_of : (a b c d e f : Bool) → T (a && b && c && d && e && f) → T a × T b × T c × T d × T e × T f
all_of true true true true true true t = (tt, tt, tt, tt, tt, tt)
all_of true true true true true false t = absurd t
all_of true true true true false f t = absurd t
all_of true true true false e f t = absurd t
all_of true true false d e f t = absurd t
all_of true false c d e f t = absurd t
all_of false b c d e f t = absurd t

of_all : (a b c d e f : Bool) → T a → T b → T c → T d → T e → T f → T (a && b && c && d && e && f)
of_all a b c d e f p q r s t u =
    yes_and (a && b && c && d && e) f
    (yes_and (a && b && c && d) e (yes_and (a && b && c) d (yes_and (a && b) c (yes_and a b p q) r) s) t) u

module _ (ps : List ℤ) (six : SixPoints) (ws : List ℕ) (split : six.first ≤ 6) where
  abbrev p : Piece
  p = piece_at ps six

  pub row_agrees : (row : ℕ) → T (agrees ps six ws row)
      ↔ (total (reading row) (of_first_simplex ws) p.first ≡ total (reading row) (of_second_simplex p ws) p.second)
  unfolding agrees
  row_agrees row =
      rw (side_first ps six ws row, side_second ps six ws split row)
      (both_ways (total (reading row) (of_first_simplex ws) p.first) (total (reading row) (of_second_simplex p ws) p.second))

  abbrev row : ℕ → Bool
  row k = agrees ps six ws k

  abbrev above : Bool
  above = lt_z (pos 0) (side ps six ws 0 six.first 4)

  -- the five rows and the sum above 0 are what is asked
  of_passes : Light ws → T (passes ps six ws) → BorneOut p ws
  unfolding reading
  of_passes h t =
      let (x, y, z, m, n, o) = all_of (row 0) (row 1) (row 2) (row 3) (row 4) above t in
      record {
        light = h.at;
        balanced = record {
          sums = (row_agrees 4).0 n;
          xs = (row_agrees 0).0 x;
          ys = (row_agrees 1).0 y;
          zs = (row_agrees 2).0 z;
          times = (row_agrees 3).0 m;
        };
        some = record { lt = subst (λ k. T (lt_z (pos 0) k)) (side_first ps six ws 4) o };
      }

  passes_of : BorneOut p ws → T (passes ps six ws)
  unfolding reading
  passes_of b =
      let h = b.balanced in
      of_all (row 0) (row 1) (row 2) (row 3) (row 4) above
      ((row_agrees 0).1 h.xs) ((row_agrees 1).1 h.ys) ((row_agrees 2).1 h.zs) ((row_agrees 3).1 h.times) ((row_agrees 4).1 h.sums)
      (subst (λ k. T (lt_z (pos 0) k)) (sym (side_first ps six ws 4)) b.some.lt)

  pub decides : Light ws → AnswerIs p ws (passes ps six ws)
  unfolding AnswerIs
  decides h = told (passes ps six ws) (of_passes h) passes_of
    where
      told : (b : Bool) → (T b → BorneOut p ws) → (BorneOut p ws → T b) → AnswerIs p ws b
      told true f g = f tt
      told false f g = g

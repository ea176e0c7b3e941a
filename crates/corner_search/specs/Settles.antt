-- With every point left, weights for the points left are weights of the piece; so the search settles a degenerate piece.
use Rattle.std.specs.Prelude.{ℕ, zero, suc, ◌+◌, ◌<◌, ◌≡◌, refl, ◌↔◌, Bool, true, false, List, [], ◌∷◌, T, ℤ, length}
use Rattle.std.proofs.Common.{arith, sym, ◌∙◌, length-append}
use Rattle.std.proofs.Math.Path.{subst}
use Rattle.meaning.specs.Equations.{Touches}
use Rattle.meaning.specs.Verdicts.{PieceIs}
use Rattle.meaning.specs.Resting.{PieceSettled}
use Rattle.meaning.specs.declared.Verdict.{Verdict}
use Rattle.meaning.specs.declared.Settled.{Settled}
use Rattle.corner_leaf.specs.declared.SixPoints.{SixPoints}
use Rattle.corner_laws.specs.Left.{fewer, touch_in_is}
use Rattle.corner_leaf.specs.Points.{is_left, piece_at, TouchLeft, six_long}
use Rattle.corner_search.specs.Says.{Tells}

-- the word of a piece that is not degenerate
abbrev pub kept : Verdict → Settled
kept Verdict.Hit = Settled.Hit
kept Verdict.Miss = Settled.Miss
kept Verdict.Degenerate = Settled.Apart

abbrev pub every_left : List Bool
every_left = true ∷ true ∷ true ∷ true ∷ true ∷ true ∷ []

module _ (ps : List ℤ) (six : SixPoints) where
  every : (i : ℕ) → i < length (piece_at ps six).first + length (piece_at ps six).second → is_left every_left i ≡ true
  every i h = go i (subst (λ n. i < n) (sym (length-append (piece_at ps six).first (piece_at ps six).second) ∙ six_long ps six) h)
    where
      go : (i : ℕ) → i < 6 → is_left every_left i ≡ true
      go zero h = refl
      go (suc zero) h = refl
      go (suc (suc zero)) h = refl
      go (suc (suc (suc zero))) h = refl
      go (suc (suc (suc (suc zero)))) h = refl
      go (suc (suc (suc (suc (suc zero))))) h = refl
      go (suc (suc (suc (suc (suc (suc i)))))) h = absurd (omega arith)

  pub every_left_is : TouchLeft ps six every_left ↔ Touches (piece_at ps six)
  every_left_is = (
    λ t. touch_in_is.1 (fewer (λ i k e. absurd (subst T e tt)) t.weights),
    λ t. record { weights = fewer (λ i k e. absurd (subst T (sym (every i k) ∙ e) tt)) (touch_in_is.0 t) },
  )

  -- where a piece has no weights, there are none for all its points
  pub none_tells : ¬ Touches (piece_at ps six) → Tells ps six every_left false
  unfolding Tells
  none_tells n t = n (every_left_is.0 t)

  -- what is told of all the points settles a degenerate piece
  module _ {verdict : Verdict} (is : PieceIs (piece_at ps six) verdict) (e : verdict ≡ Verdict.Degenerate) (r : Bool) (told : Tells ps six every_left r) where
    degenerate : PieceIs (piece_at ps six) Verdict.Degenerate
    degenerate = subst (PieceIs (piece_at ps six)) e is

    pub settles_touch : r ≡ true → PieceSettled (piece_at ps six) Settled.Touch
    unfolding PieceSettled Tells
    settles_touch k = (degenerate, every_left_is.0 (subst (Tells ps six every_left) k told))

    pub settles_apart : r ≡ false → PieceSettled (piece_at ps six) Settled.Apart
    unfolding PieceSettled Tells
    settles_apart k = (degenerate, λ t. subst (Tells ps six every_left) k told (every_left_is.1 t))

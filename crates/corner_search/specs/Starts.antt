-- Where all vertices of a pair rest: some piece touches exactly when there are weights for the starts of the first piece alone.
use Rattle.std.specs.Prelude.{ℕ, ◌/◌, ◌%◌, ◌<◌, ◌≡◌, Bool, true, false, not, List, [], ◌∷◌, T, ℤ, get_or}
use Rattle.std.proofs.Common.{arith}
use Rattle.std.proofs.Math.Path.{subst}
use Rattle.meaning.specs.Scene.{Scene}
use Rattle.meaning.specs.Pieces.{piece_of, piece_count, moving_triangle, moving_edge}
use Rattle.meaning.specs.Equations.{Touches}
use Rattle.meaning.specs.Verdicts.{PieceIs}
use Rattle.meaning.specs.Resting.{PieceSettled, SomeSettled, PairSettled}
use Rattle.meaning.specs.declared.Kind.{Kind}
use Rattle.meaning.specs.declared.Kind.TheVariants.{PointTriangle, EdgeEdge}
use Rattle.meaning.specs.declared.Settled.TheVariants.{Hit, Touch, Apart}
use Rattle.corner_leaf.specs.declared.SixPoints.{SixPoints}
use Rattle.corner_laws.specs.Left.{fewer, touch_in_is}
use Rattle.corner_laws.specs.AtRest.{AllStill, edges_starts}
use Rattle.corner_laws.proofs.AtRest.{point_starts_lem}
use Rattle.corner_laws.specs.SingularAtRest.{singular_at_rest}
use Rattle.corner_leaf.specs.Points.{piece_at, TouchLeft}
use Rattle.corner_search.specs.Sixes.{point_six, edges_six, six_of, six_piece}

-- which of six points are at the start
abbrev pub starts_among : List Bool → List Bool
starts_among ends = at 0 ∷ at 1 ∷ at 2 ∷ at 3 ∷ at 4 ∷ at 5 ∷ []
  where
    at : ℕ → Bool
    at i = not (get_or ends i false)

-- weights of the starts are weights of the piece, whether anything rests or not
pub starts_are_weights : (ps : List ℤ) (six : SixPoints) (left : List Bool) → TouchLeft ps six left → Touches (piece_at ps six)
starts_are_weights ps six left t = touch_in_is.1 (fewer (λ i k e. absurd (never e)) t.weights)
  where
    never : true ≡ false → ⊥
    never e = subst T e tt

pub first_there : (kind : Kind) → 0 < piece_count kind
unfolding piece_count
first_there PointTriangle = omega arith
first_there EdgeEdge = omega arith

module _ (s : Scene) where
  pub weights_on_starts : (kind : Kind) (i j k : ℕ) → AllStill s kind i j → Touches (piece_of s kind i j k)
      → TouchLeft s.positions (six_of s kind i j 0) (starts_among (six_of s kind i j 0).ends)
  unfolding AllStill piece_of six_of point_six edges_six moving_triangle moving_edge
  weights_on_starts PointTriangle i j k h t = record { weights = point_starts_lem h.0 h.1 h.2 h.3 k t }
  weights_on_starts EdgeEdge i j k h t = record { weights = edges_starts h.0 h.1 h.2 h.3 (k / 2) (k % 2) t }

  -- so the word of a pair that rests is touch or apart, by the starts of its first piece alone
  module _ (kind : Kind) (i j : ℕ) (h : AllStill s kind i j) where
    abbrev StartsTouch : Type 0
    StartsTouch = TouchLeft s.positions (six_of s kind i j 0) (starts_among (six_of s kind i j 0).ends)

    no_hit : ¬ SomeSettled s kind i j Hit
    unfolding PieceSettled PieceIs
    no_hit t = t.has.0 (singular_at_rest s kind i j t.which h)

    pub rests_touch : StartsTouch → PairSettled s kind i j Touch
    unfolding PairSettled PieceSettled PieceIs
    rests_touch t = (
      no_hit,
      record {
        which = 0;
        there = first_there kind;
        has = (singular_at_rest s kind i j 0 h, subst Touches (six_piece s kind i j 0) (starts_are_weights s.positions (six_of s kind i j 0) _ t));
      },
    )

    pub rests_apart : ¬ StartsTouch → PairSettled s kind i j Apart
    unfolding PairSettled PieceSettled PieceIs
    rests_apart n = (
      no_hit,
      λ t. n (weights_on_starts kind i j t.which h t.has.1),
      record { which = 0; there = first_there kind; has = singular_at_rest s kind i j 0 h },
    )

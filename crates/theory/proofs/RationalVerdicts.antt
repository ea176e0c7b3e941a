-- Of `RationalVerdicts`: what rests on its definitions.
use Rattle.std.specs.Prelude.{◌≡◌, ◌≢◌, ◌↔◌, ℕ, pos}
use Rattle.std.proofs.Common.{subst}
use Rattle.std.proofs.Math.IntN.{ℤ_discrete}
use Rattle.meaning.specs.Scene.{Scene}
use Rattle.meaning.specs.Pieces.{Piece, piece_of}
use Rattle.meaning.specs.Equations.{determinant_of}
use Rattle.meaning.specs.Verdicts.{PieceIs}
use Rattle.meaning.specs.declared.Kind.{Kind}
use Rattle.meaning.specs.declared.Verdict.{Verdict}
use Rattle.meaning.specs.declared.Verdict.TheVariants.{Hit, Miss, Degenerate}
use Rattle.theory.specs.Rational.{touch_rational}
use Rattle.theory.proofs.Singular.{one_solution_is}
use Rattle.theory.specs.RationalVerdicts.{Solvable, RationalPieceIs, OfForm, piece_form}

solvable_is : {p : Piece} → OfForm p → (determinant_of p ≢ pos 0) ↔ Solvable p
solvable_is f = subst (λ (p : Piece). (determinant_of p ≢ pos 0) ↔ Solvable p) f.is (one_solution_is f.form f.start f.end f.others)

pub rational_is : {p : Piece} → OfForm p → (v : Verdict) → PieceIs p v ↔ RationalPieceIs p v
unfolding PieceIs RationalPieceIs
rational_is {p} f Hit = (
  λ h. ((solvable_is f).0 h.0, (touch_rational p.first p.second).0 h.1),
  λ h. ((solvable_is f).1 h.0, (touch_rational p.first p.second).1 h.1),
)
rational_is {p} f Miss = (
  λ h. ((solvable_is f).0 h.0, λ m. h.1 ((touch_rational p.first p.second).1 m)),
  λ h. ((solvable_is f).1 h.0, λ m. h.1 ((touch_rational p.first p.second).0 m)),
)
rational_is {p} f Degenerate = (λ h s. (solvable_is f).1 s h, λ h. singular (ℤ_discrete (determinant_of p) (pos 0)) h)
  where
    singular : Dec (determinant_of p ≡ pos 0) → ¬ Solvable p → determinant_of p ≡ pos 0
    singular (yes e) h = e
    singular (no n) h = absurd (h ((solvable_is f).0 n))

pub piece_rational : (s : Scene) (kind : Kind) (i j k : ℕ) (v : Verdict) → PieceIs (piece_of s kind i j k) v ↔ RationalPieceIs (piece_of s kind i j k) v
piece_rational s kind i j k v = rational_is (piece_form s kind i j k) v

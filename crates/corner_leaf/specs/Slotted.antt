-- What code puts in the slots is what stands there.
use Rattle.std.specs.Prelude.{ℕ, ◌≡◌, Bool, List, ℤ}
use Rattle.std.proofs.Common.{◌∙◌}
use Rattle.std.proofs.Math.Path.{ap}
use Rattle.whole.specs.Vector.{Vector}
use Rattle.whole.specs.Cramer.{Four, each, volumes}
use Rattle.exact.specs.Volumes.{four}
use Rattle.exact.specs.Arrows.{vector_of, Points, points_same, arrow_volumes}
use Rattle.exact.specs.declared.arrows.Arrow.{Arrow}
use Rattle.corner_leaf.specs.declared.SixPoints.{SixPoints}
use Rattle.corner_laws.specs.Others.{others_of}
use Rattle.corner_laws.specs.Filled.{slot, next, filled}
use Rattle.corner_leaf.specs.Points.{is_left}
use Rattle.corner_leaf.specs.Answer.{seen_from, judged_by, turn_of}

module _ (ps : List ℤ) (six : SixPoints) (left : List Bool) (s e : ℕ) where
  abbrev at : ℕ → ℕ → Vector
  at i f = slot (is_left left i) (seen_from ps six s e i) f

  -- the volumes of arrows that stand in the slots of the four others, judged, are the turn
  pub turned : (f : ℕ) (q : Four ℕ) (f₁ f₂ f₃ : ℕ) (a₀ a₁ a₂ a₃ : Arrow) (n : Four ℤ) → q ≡ others_of s e → f₁ ≡ next (is_left left q.v0) f → f₂ ≡ next (is_left left q.v1) f₁ → f₃ ≡ next (is_left left q.v2) f₂ → Points a₀ (at q.v0 f) → Points a₁ (at q.v1 f₁) → Points a₂ (at q.v2 f₂) → Points a₃ (at q.v3 f₃) → n ≡ arrow_volumes (four a₀ a₁ a₂ a₃) → judged_by six left s e q n ≡ turn_of ps six left s e f
  unfolding turn_of
  turned f q f₁ f₂ f₃ a₀ a₁ a₂ a₃ n hq h₁ h₂ h₃ g₀ g₁ g₂ g₃ k =
      ap (judged_by six left s e q) (k ∙ ap volumes filled_so)
      ∙ ap (λ (q : Four ℕ). judged_by six left s e q (volumes (filled f (each (is_left left) q) (each (seen_from ps six s e) q)))) hq
    where
      e₂ : f₂ ≡ next (is_left left q.v1) (next (is_left left q.v0) f)
      e₂ = h₂ ∙ ap (next (is_left left q.v1)) h₁

      filled_so : each vector_of (four a₀ a₁ a₂ a₃) ≡ filled f (each (is_left left) q) (each (seen_from ps six s e) q)
      filled_so = λ i. record {
        v0 = points_same g₀ i;
        v1 = (points_same g₁ ∙ ap (at q.v1) h₁) i;
        v2 = (points_same g₂ ∙ ap (at q.v2) e₂) i;
        v3 = (points_same g₃ ∙ ap (at q.v3) (h₃ ∙ ap (next (is_left left q.v2)) e₂)) i;
      }

-- The answer for an edge and a triangle of a scene that was checked, as it is found.
use Rattle.std.specs.Prelude.{ℕ, ◌<◌, Bool, ◌≡◌, leb, Err, Ok}
use Rattle.std.proofs.Math.Bool.{true, false}
use Rattle.std.proofs.Math.Path.{refl}
use Rattle.std.proofs.Common.{sym, ◌∙◌, leb-false}
use Rattle.meaning.specs.Scene.{Scene, edge_count, triangle_count}
use Rattle.meaning.specs.Refusals.{Answers, number_of, outcome_alone}
use Rattle.meaning.specs.Pierced.{no_edge_or_triangle, end_is_corner, pierced_asked, PiercedIs}
use Rattle.meaning.specs.declared.Frame.{Frame}
use Rattle.meaning.specs.declared.Refusal.TheVariants.{NotThere, SharedVertex}
use Rattle.answers.specs.Answering.{refuses, lets_pass, gives}
use Rattle.answers.specs.Below.{or_left, or_rest}

module _ (s : Scene) (f : Frame) (i j : ℕ) where
  pub parts_there : no_edge_or_triangle s i j ≡ false → (i < edge_count s) × (j < triangle_count s)
  parts_there e = (
    leb-false (edge_count s) i (or_left (leb (edge_count s) i) (leb (triangle_count s) j) e),
    leb-false (triangle_count s) j (or_rest (leb (edge_count s) i) (leb (triangle_count s) j) e),
  )

  pub five_first : no_edge_or_triangle s i j ≡ true → Answers (pierced_asked s i j) (PiercedIs s f i j) (outcome_alone (Err NotThere))
  unfolding outcome_alone number_of
  five_first h = refuses _ _ _ _ h refl

  module _ (there : no_edge_or_triangle s i j ≡ false) {shared : Bool} (is : shared ≡ end_is_corner s i j) where
    pub then_six : shared ≡ true → Answers (pierced_asked s i j) (PiercedIs s f i j) (outcome_alone (Err SharedVertex))
    unfolding outcome_alone number_of
    then_six h = lets_pass _ _ _ _ there (refuses _ _ _ _ (sym is ∙ h) refl)

    pub then_told : shared ≡ false → (b : Bool) → PiercedIs s f i j b → Answers (pierced_asked s i j) (PiercedIs s f i j) (outcome_alone (Ok b))
    unfolding outcome_alone
    then_told none b told = lets_pass _ _ _ _ there (lets_pass _ _ _ _ (sym is ∙ none) (gives (PiercedIs s f i j) b told))

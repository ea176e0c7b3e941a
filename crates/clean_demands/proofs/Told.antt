-- A series of which no hit and no touch is told, and which is clean at first, is clean throughout.
use Rattle.std.specs.Prelude.{ℕ, ◌≡◌, List}
use Rattle.meaning.specs.Series.{Series, steps_of, Told, ToldRight}
use Rattle.meaning.specs.SeriesText.{HoldsSeries}
use Rattle.meaning.specs.declared.Frame.TheVariants.{Start}
use Rattle.series_laws.specs.AllAccepted.{EachAccepted, steps_accepted}
use Rattle.clean_demands.specs.Mesh.{scene_well_made, SidesAreEdges, CleanAt}
use Rattle.clean_demands.specs.Steps.{EachStep, CleanStep}
use Rattle.clean_demands.proofs.Steps.{clean_series}
use Rattle.clean_demands.specs.Told.{told_untouched}

-- and whose steps are accepted: clean at first, so clean throughout
pub told_clean : (x : Series) (t : Told) → EachAccepted (steps_of x) → SidesAreEdges x.scene → ToldRight x t → t.hits ≡ 0 → t.touches ≡ 0
    → CleanAt x.scene Start → EachStep CleanStep (steps_of x)
told_clean x t accepted sides right hits touches clean =
    clean_series x sides (λ s m. record { well = scene_well_made (accepted s m); nothing = told_untouched x t right hits touches s m }) clean

-- as they are where it was read from a text
pub read_clean : {text : List ℕ} {x : Series} → HoldsSeries text x → (t : Told) → SidesAreEdges x.scene → ToldRight x t → t.hits ≡ 0 → t.touches ≡ 0
    → CleanAt x.scene Start → EachStep CleanStep (steps_of x)
read_clean {x = x} holds t = told_clean x t (steps_accepted holds)

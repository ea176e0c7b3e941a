-- A drape of which it is told has stayed clean.
use Rattle.std.specs.Prelude.{ℕ, ◌<◌, List, ◌∷◌}
use Rattle.meaning.specs.Scene.{Scene, edge_count}
use Rattle.meaning.specs.declared.Frame.TheVariants.{Start, End}
use Rattle.meaning.specs.declared.RowPairs.{RowPairs}
use Rattle.clean_demands.specs.Mesh.{SidesAreEdges, CleanAt}
use Rattle.clean_demands.proofs.Mesh.{clean_at_the_end}
use Rattle.clean_demands.specs.Rows.{rows_untouched}
use Rattle.clean_demands.specs.Through.{RowClean, rows_clean}
use Rattle.clean_demands.specs.Steps.{InTurn, EachStep, CleanStep}
use Rattle.clean_demands.proofs.Steps.{every_frame_clean}
use Rattle.clean_demands.specs.Drape.{ToldClean, ToldStep}

pub stayed_clean : {w : RowPairs} {s : Scene} → ToldClean w s → CleanAt s End
stayed_clean {w} {s} told = clean_at_the_end told.well told.sides (rows_untouched w s told.rows) (rows_clean Start s told.start)

-- every frame of it is clean: the sides are edges, no row of edges is pierced in the first frame, and each step is so
pub drape_stayed_clean : {w : RowPairs} {s : Scene} {more : List Scene} → InTurn s more → SidesAreEdges s → ((i : ℕ) → i < edge_count s → RowClean Start s i)
    → EachStep (ToldStep w) (s ∷ more) → EachStep CleanStep (s ∷ more)
drape_stayed_clean {w} {s} turns sides first told =
    every_frame_clean turns sides (λ t m. record { well = (told t m).well; nothing = rows_untouched w t (told t m).rows }) (rows_clean Start s first)

-- Pierced: an edge is through a triangle already, at the start or at the end.
use Rattle.std.specs.Prelude.{ℕ, Bool, true, false, ◌||◌, List, [], ◌∷◌, ◌++◌, map, leb, ℤ, Result}
use Rattle.meaning.specs.Scene.{Scene, edge_count, triangle_count, edge_end, corner}
use Rattle.meaning.specs.Pieces.{Event, starting, ending}
use Rattle.meaning.specs.Equations.{Touch}
use Rattle.meaning.specs.Refusals.{Check, Answers, scene_checks, shares, outcome_alone}
use Rattle.meaning.specs.declared.Frame.{Frame}
use Rattle.meaning.specs.declared.Frame.TheVariants.{Start, End}
use Rattle.meaning.specs.declared.Kind.TheVariants.{PointTriangle}
use Rattle.meaning.specs.declared.Refusal.{Refusal}

-- vertex v at that time
unfoldable pub stands_at : Frame → List ℤ → ℕ → Event
stands_at Start ps v = starting ps v
stands_at End ps v = ending ps v

-- nonnegative weights, with the same sum above 0 in both, give the edge and the triangle one place at that time: the edge's two ends and
-- the triangle's three corners all stand at it, so that their times agree by themselves
abbrev pub Pierced : Scene → Frame → ℕ → ℕ → Type 0
Pierced s f i j = Touch (map at (edge_end s i 0 ∷ edge_end s i 1 ∷ [])) (map at (corner s j 0 ∷ corner s j 1 ∷ corner s j 2 ∷ []))
  where
    at : ℕ → Event
    at = stands_at f s.positions

-- yes and no
unfoldable pub PiercedIs : Scene → Frame → ℕ → ℕ → Bool → Type 0
PiercedIs s f i j true = Pierced s f i j
PiercedIs s f i j false = ¬ Pierced s f i j

-- 5: an edge or a triangle asked for that isn't there
abbrev pub no_edge_or_triangle : Scene → ℕ → ℕ → Bool
no_edge_or_triangle s i j = leb (edge_count s) i || leb (triangle_count s) j

-- 6: an end of the edge is a corner of the triangle
abbrev pub end_is_corner : Scene → ℕ → ℕ → Bool
end_is_corner s i j = shares s PointTriangle (edge_end s i 0) j || shares s PointTriangle (edge_end s i 1) j

abbrev pub pierced_asked : Scene → ℕ → ℕ → List Check
pierced_asked s i j =
    record { number = 5; holds = no_edge_or_triangle s i j; carries = 0 }
    ∷ record { number = 6; holds = end_is_corner s i j; carries = 0 }
    ∷ []

abbrev pub pierced_checks : Scene → ℕ → ℕ → List Check
pierced_checks s i j = scene_checks s ++ pierced_asked s i j

-- what is promised of an edge and a triangle asked for
abbrev pub PiercedDecided : Scene → Frame → ℕ → ℕ → Result Bool Refusal → Type 0
PiercedDecided s f i j r = Answers (pierced_checks s i j) (PiercedIs s f i j) (outcome_alone r)

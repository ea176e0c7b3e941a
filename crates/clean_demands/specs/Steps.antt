-- A series: each step starts where the last ended, with the same edges, triangles and seams. The first frame is clean and nothing is touched in any
-- step, so every frame is clean.
use Rattle.std.specs.Prelude.{ℕ, ◌<◌, ◌≡◌}
use mathlib.Core.List.{List, [], ◌∷◌, Memᴰ}
use Rattle.meaning.specs.Scene.{Scene, start_of, end_of, vertex_count}
use Rattle.meaning.specs.declared.Frame.TheVariants.{Start, End}
use Rattle.clean_demands.specs.Mesh.{WellMade, NothingTouched, CleanAt}

-- t goes on where s ended
pub record GoesOn (s t : Scene) : Type 0 where
  pub edges : t.edges ≡ s.edges
  pub triangles : t.triangles ≡ s.triangles
  pub seams : t.seams ≡ s.seams
  pub places : (v : ℕ) → v < vertex_count s → start_of t v ≡ end_of s v

-- ---- from step to step

-- the steps behind s, each of which goes on where the one before it ended
pub data InTurn : Scene → List Scene → Type 0 where
  last : {s : Scene} → InTurn s []
  next : {s t : Scene} {more : List Scene} → GoesOn s t → InTurn t more → InTurn s (t ∷ more)

-- a step in which nothing is touched
pub record UntouchedStep (s : Scene) : Type 0 where
  pub well : WellMade s
  pub nothing : NothingTouched s

-- both of its frames are clean
pub record CleanStep (s : Scene) : Type 0 where
  pub start : CleanAt s Start
  pub end : CleanAt s End

abbrev pub EachStep : (Scene → Type 0) → List Scene → Type 0
EachStep P l = (s : Scene) → Memᴰ s l → P s

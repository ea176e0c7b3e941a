-- What the verdict of a piece asks of the positions: coordinates within their limit, and every vertex there.
use Rattle.std.specs.Prelude.{ℕ, ◌+◌, ◌*◌, ◌/◌, ◌≤◌, ◌<◌, List, ℤ, length}
use Rattle.std.proofs.Common.{arith}
use Rattle.whole.specs.Sizes.{Within}
use Rattle.meaning.specs.Limits.{coordinate_limit}
use Rattle.meaning.specs.Scene.{Scene, vertex_count, edge_count, triangle_count, edge_end, corner, rising, ends_of, corners_of}
use Rattle.meaning.specs.declared.Ends.{Ends}
use Rattle.meaning.specs.declared.Corners.{Corners}
use Rattle.exact.specs.Places.{Bounded}
use Rattle.exact.specs.Shared.{Moving}
use Rattle.theory.specs.InOrder.{rising_keeps, among_keeps}
use Rattle.scene_checks.specs.Facts.{Sound}

pub record PointReady (ps : List ℤ) (p : ℕ) (c : Corners) : Type 0 where
  pub bounded : Bounded coordinate_limit ps
  pub point : p < length ps / 6
  pub low : c.low < length ps / 6
  pub middle : c.middle < length ps / 6
  pub high : c.high < length ps / 6

pub record EdgesReady (ps : List ℤ) (e f : Ends) : Type 0 where
  pub bounded : Bounded coordinate_limit ps
  pub low : e.low < length ps / 6
  pub high : e.high < length ps / 6
  pub other_low : f.low < length ps / 6
  pub other_high : f.high < length ps / 6

-- a vertex that is there has six numbers
pub moving : {ps : List ℤ} {v : ℕ} → v < length ps / 6 → Moving ps (6 * v)
moving h = record { six = omega arith }

-- in a sound scene, and so in every accepted scene and mesh, everything is ready
sound_bounded : {s : Scene} → Sound s → Bounded coordinate_limit s.positions
sound_bounded a = record { at = λ i. record { size = a.within i } }

pub point_ready : {s : Scene} → Sound s → (v j : ℕ) → v < vertex_count s → j < triangle_count s → PointReady s.positions v (corners_of s j)
point_ready {s} a v j h k =
    let There : ℕ → Type 0 = λ w. w < vertex_count s in
    let (l, m) = rising_keeps s There (corner s j 0) (corner s j 1) (a.corners j 0 k (omega arith)) (a.corners j 1 k (omega arith)) in
    let (low, middle, high) = among_keeps s There (rising s (corner s j 0) (corner s j 1)) (corner s j 2) l m (a.corners j 2 k (omega arith)) in
    record { bounded = sound_bounded a; point = h; low = low; middle = middle; high = high }

ends_there : {s : Scene} → Sound s → (j : ℕ) → j < edge_count s → ((ends_of s j).low < vertex_count s) × ((ends_of s j).high < vertex_count s)
ends_there {s} a j h =
    rising_keeps s (λ w. w < vertex_count s) (edge_end s j 0) (edge_end s j 1) (a.ends j 0 h (omega arith)) (a.ends j 1 h (omega arith))

pub edges_ready : {s : Scene} → Sound s → (i j : ℕ) → i < edge_count s → j < edge_count s → EdgesReady s.positions (ends_of s i) (ends_of s j)
edges_ready {s} a i j h k =
    let (low, high) = ends_there a i h in
    let (other_low, other_high) = ends_there a j k in
    record { bounded = sound_bounded a; low = low; high = high; other_low = other_low; other_high = other_high }

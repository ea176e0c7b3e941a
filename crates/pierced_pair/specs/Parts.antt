-- An edge and a triangle of a scene by their vertices.
use Rattle.std.specs.Prelude.{ℕ, ◌/◌, ◌≤◌, ◌<◌, ◌≡◌, Bool, List, [], ◌∷◌, ℤ, length}
use Rattle.std.proofs.Common.{arith}
use Rattle.std.proofs.Math.Bool.{true, false}
use Rattle.whole.specs.Vector.{Vector}
use Rattle.meaning.specs.Limits.{coordinate_limit}
use Rattle.meaning.specs.Scene.{Scene, scene_of, vector_at, edge_count, triangle_count, edge_end, corner}
use Rattle.meaning.specs.Pierced.{PiercedIs}
use Rattle.meaning.specs.declared.Frame.{Frame}
use Rattle.exact.specs.Places.{Bounded}
use Rattle.scene_checks.specs.Facts.{Sound}
use Rattle.scene_seams.specs.Alone.{only_edges, only_triangles}
use Rattle.pierced_laws.specs.OneTime.{end_places, corner_places, pierced_together}
use Rattle.pierced_pair.specs.Places.{PlacesTell}
use Rattle.pierced_pair.specs.Vertices.{offset_of, offset_where, vertex_numbers, FiveThere, VerticesTell}

-- the edge, the triangle and all their vertices are there, and every coordinate is in its range
pub record PartsIn (ps : List ℤ) (es ts : List ℕ) (i j : ℕ) : Type 0 where
  pub bounded : Bounded coordinate_limit ps
  pub few : length ps / 6 ≤ vertex_numbers
  pub edge : i < edge_count (only_edges es)
  pub triangle : j < triangle_count (only_triangles ts)
  pub ends : (k : ℕ) → k < 2 → edge_end (only_edges es) i k < length ps / 6
  pub corners : (k : ℕ) → k < 3 → corner (only_triangles ts) j k < length ps / 6

pub parts_in : {s : Scene} → Sound s → (i j : ℕ) → i < edge_count s → j < triangle_count s → PartsIn s.positions s.edges s.triangles i j
parts_in {s} a i j h k = record {
  bounded = record { at = λ n. record { size = a.within n } };
  few = let n = a.few in omega arith;
  edge = h;
  triangle = k;
  ends = λ n l. a.ends i n h l;
  corners = λ n l. a.corners j n k l;
}

-- ---- the five vertices of an edge and a triangle, as code reads them

pub record FiveAre (es ts : List ℕ) (i j p q a b c : ℕ) : Type 0 where
  pub one_end : p ≡ edge_end (only_edges es) i 0
  pub other_end : q ≡ edge_end (only_edges es) i 1
  pub one_corner : a ≡ corner (only_triangles ts) j 0
  pub next_corner : b ≡ corner (only_triangles ts) j 1
  pub last_corner : c ≡ corner (only_triangles ts) j 2

module _ (s : Scene) (f : Frame) (i j : ℕ) where
  abbrev place : ℕ → Vector
  place v = vector_at s.positions (offset_of f v)

  ends_there : place (edge_end s i 0) ∷ place (edge_end s i 1) ∷ [] ≡ end_places s f i
  ends_there = λ n. offset_where f s (edge_end s i 0) n ∷ offset_where f s (edge_end s i 1) n ∷ []

  corners_there : place (corner s j 0) ∷ place (corner s j 1) ∷ place (corner s j 2) ∷ [] ≡ corner_places s f j
  corners_there = λ n. offset_where f s (corner s j 0) n ∷ offset_where f s (corner s j 1) n ∷ offset_where f s (corner s j 2) n ∷ []

  -- what is told of the five vertices is told of the edge and the triangle
  pub pierced_told : (r : Bool) → VerticesTell s.positions f (edge_end s i 0) (edge_end s i 1) (corner s j 0) (corner s j 1) (corner s j 2) r
      → PiercedIs s f i j r
  unfolding PlacesTell PiercedIs
  pierced_told true t = (pierced_together s f i j).1 (rw (← ends_there, ← corners_there) t)
  pierced_told false n = λ t. n (rw (← ends_there, ← corners_there) at ((pierced_together s f i j).0 t))

module _ (ps : List ℤ) (es ts : List ℕ) (i j p q a b c : ℕ) (h : FiveAre es ts i j p q a b c) where
  pub five_there : PartsIn ps es ts i j → FiveThere ps p q a b c
  five_there k = rw (h.one_end, h.other_end, h.one_corner, h.next_corner, h.last_corner) (record {
    bounded = k.bounded;
    few = k.few;
    one_end = k.ends 0 (omega arith);
    other_end = k.ends 1 (omega arith);
    one_corner = k.corners 0 (omega arith);
    next_corner = k.corners 1 (omega arith);
    last_corner = k.corners 2 (omega arith);
  })

  -- whatever the seams
  pub five_told : (f : Frame) (r : Bool) → VerticesTell ps f p q a b c r → (w : List ℕ) → PiercedIs (scene_of ps es ts w) f i j r
  five_told f r t w = pierced_told (scene_of ps es ts w) f i j r (rw (h.one_end, h.other_end, h.one_corner, h.next_corner, h.last_corner) at t)

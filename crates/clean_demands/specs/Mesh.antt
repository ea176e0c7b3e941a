-- Clean at the start, nothing touched: clean at the end, for a scene or a mesh of any size in which every side of a triangle is an edge. Edges and
-- triangles that share a vertex are not in it: no word is asked for of them.
use Rattle.std.specs.Prelude.{ℕ, ◌+◌, ◌*◌, ◌<◌, ◌≡◌, false}
use Rattle.std.proofs.Common.{arith}
use Rattle.meaning.specs.Scene.{Scene, Accepted, vertex_count, edge_count, triangle_count, edge_end, corner, unknown_vertex, broken_seam}
use Rattle.meaning.specs.Refusals.{not_there, shares}
use Rattle.meaning.specs.Pierced.{Pierced, no_edge_or_triangle, end_is_corner}
use Rattle.meaning.specs.declared.Frame.{Frame}
use Rattle.meaning.specs.declared.Kind.{Kind}
use Rattle.theory.specs.NoCrack.{Sewn}
use Rattle.answers.specs.Below.{or_left, or_rest}
use Rattle.scene_checks.specs.Facts.{known_inside}
use Rattle.mesh_checks.specs.Meshes.{AcceptedMesh}
use Rattle.pierced_laws.specs.SomeWeights.{SomeTouches}
use Rattle.demands.specs.Sewn.{well_sewn}
use Rattle.clean_demands.specs.Sides.{Between}

-- ---- what is asked of a scene or a mesh

-- the ends of edges and the corners of triangles are vertices, and vertices that stand for one are in one place, at the start and at the end
pub record WellMade (s : Scene) : Type 0 where
  pub ends : (e k : ℕ) → e < edge_count s → k < 2 → edge_end s e k < vertex_count s
  pub corners : (j k : ℕ) → j < triangle_count s → k < 3 → corner s j k < vertex_count s
  pub in_one_place : Sewn s

-- 3 and 15 give it, which ask for no size
pub known_and_sewn : (s : Scene) → unknown_vertex s ≡ false → broken_seam s ≡ false → WellMade s
known_and_sewn s known sewn = record {
  ends = λ e k h l. known_inside (vertex_count s) s.edges (search (or_left, or_rest)) (2 * e + k) (omega arith);
  corners = λ j k h l. known_inside (vertex_count s) s.triangles (search (or_left, or_rest)) (3 * j + k) (omega arith);
  in_one_place = well_sewn s sewn;
}

pub scene_well_made : {s : Scene} → Accepted s → WellMade s
scene_well_made {s} a = known_and_sewn s a.known a.sewn_well

pub mesh_well_made : {s : Scene} → AcceptedMesh s → WellMade s
mesh_well_made {s} a = known_and_sewn s a.known a.sewn_well

-- ---- every side of a triangle is an edge

-- there is an edge between two vertices, by the vertices stood for
pub record EdgeBetween (s : Scene) (a b : ℕ) : Type 0 where
  pub edge : ℕ
  pub there : edge < edge_count s
  pub between : Between s edge a b

pub record SidesAreEdges (s : Scene) : Type 0 where
  pub first : (j : ℕ) → j < triangle_count s → EdgeBetween s (corner s j 0) (corner s j 1)
  pub second : (j : ℕ) → j < triangle_count s → EdgeBetween s (corner s j 1) (corner s j 2)
  pub third : (j : ℕ) → j < triangle_count s → EdgeBetween s (corner s j 2) (corner s j 0)

-- ---- nothing touched

-- no pair that is there and shares no vertex touches in any piece
pub record NothingTouched (s : Scene) : Type 0 where
  pub none : (kind : Kind) (i j : ℕ) → not_there s kind i j ≡ false → shares s kind i j ≡ false → ¬ SomeTouches s kind i j

-- ---- clean

-- no edge pierces a triangle with which it shares no vertex
pub record CleanAt (s : Scene) (f : Frame) : Type 0 where
  pub none : (i j : ℕ) → no_edge_or_triangle s i j ≡ false → end_is_corner s i j ≡ false → ¬ Pierced s f i j

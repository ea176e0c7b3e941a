-- What holds in a scene that none of the five checks refuses: its sizes, its coordinates, its vertex numbers.
use Rattle.std.specs.Prelude.{ℕ, ◌+◌, ◌*◌, ◌%◌, ◌≤◌, ◌<◌, false, not, List, ◌≡◌, leb, eqb, pos, nat_abs, length, get_or}
use Rattle.std.proofs.Math.Decide.{dec_lt}
use Rattle.std.proofs.Common.{le_trans, arith, ltb-false, le-ltb, leb-false, eqb-true}
use Rattle.std.proofs.Math.ListN.{get_or-eq_default}
use Rattle.std.proofs.lemmas.Bool.{not-false}
use Rattle.meaning.specs.Limits.{coordinate_limit, vertex_limit, edge_limit, triangle_limit}
use Rattle.meaning.specs.Scene.{Scene, AcceptedWithin, vertex_count, edge_count, triangle_count, seam_count, edge_end, corner, beyond, reaches_beyond, unknown_in, unknown_vertex}
use Rattle.answers.specs.Below.{or_left, or_rest, none_passes, none_below}

-- six numbers to each vertex, two to each edge, three to each triangle, two to each seam, and no more of them than their sizes
pub record Sized (s : Scene) : Type 0 where
  pub positions_long : length s.positions ≡ 6 * vertex_count s
  pub edges_long : length s.edges ≡ 2 * edge_count s
  pub triangles_long : length s.triangles ≡ 3 * triangle_count s
  pub seams_long : length s.seams ≡ 2 * seam_count s
  pub few_vertices : vertex_count s ≤ vertex_limit
  pub few_edges : edge_count s ≤ edge_limit
  pub few_triangles : triangle_count s ≤ triangle_limit

pub none_over : (n d : ℕ) → not (eqb (n % d) 0) ≡ false → n % d ≡ 0
none_over n d h = eqb-true (n % d) 0 (not-false (eqb (n % d) 0) h)

pub accepted_sized : {s : Scene} {B : ℕ} → AcceptedWithin B s → Sized s
accepted_sized {s} a =
    record {
      positions_long = omega (arith, none_over (length s.positions) 6 (search (or_left, or_rest)));
      edges_long = omega (arith, none_over (length s.edges) 2 (search (or_left, or_rest)));
      triangles_long = omega (arith, none_over (length s.triangles) 3 (search (or_left, or_rest)));
      seams_long = omega (arith, none_over (length s.seams) 2 (search (or_left, or_rest)));
      few_vertices = ltb-false _ _ (search (or_left, or_rest));
      few_edges = ltb-false _ _ (search (or_left, or_rest));
      few_triangles = ltb-false _ _ (search (or_left, or_rest));
    }

-- the six numbers of a vertex, the two of an edge and the three of a triangle stand inside their lists, in any scene
pub vertex_inside : (s : Scene) (v k : ℕ) → v < vertex_count s → k < 6 → 6 * v + k < length s.positions
vertex_inside s v k h l = omega arith

pub edge_inside : (s : Scene) (j k : ℕ) → j < edge_count s → k < 2 → 2 * j + k < length s.edges
edge_inside s j k h l = omega arith

pub triangle_inside : (s : Scene) (j k : ℕ) → j < triangle_count s → k < 3 → 3 * j + k < length s.triangles
triangle_inside s j k h l = omega arith

pub known_inside : (n : ℕ) (l : List ℕ) → unknown_in n l ≡ false → (i : ℕ) → i < length l → get_or l i 0 < n
known_inside n l e i h = leb-false _ _ (none_passes (λ k. leb n (get_or l k 0)) (length l) e i h)

-- ---- what judging a pair asks of a scene, of whatever size

-- as many vertices as a mesh may have: 6 v + 3 is then a number of the machine
abbrev pub sound_limit : ℕ
sound_limit = 1_073_741_824

-- no more vertices than that; coordinates of at most B in size, also the 0 that is read past the end; ends and corners that are there
pub record SoundWithin (B : ℕ) (s : Scene) : Type 0 where
  pub few : vertex_count s ≤ sound_limit
  pub within : (i : ℕ) → nat_abs (get_or s.positions i (pos 0)) ≤ B
  pub ends : (j k : ℕ) → j < edge_count s → k < 2 → edge_end s j k < vertex_count s
  pub corners : (j k : ℕ) → j < triangle_count s → k < 3 → corner s j k < vertex_count s

abbrev pub Sound : Scene → Type 0
Sound s = SoundWithin coordinate_limit s

-- the checks 2 and 3 give it
pub checked_sound : {s : Scene} {B : ℕ} → vertex_count s ≤ sound_limit → reaches_beyond B s ≡ false → unknown_vertex s ≡ false → SoundWithin B s
checked_sound {s} {B} few in_range known =
    record {
      few = few;
      within = λ i. by_place i (dec_lt i (length s.positions));
      ends = λ j k h l. known_inside _ s.edges (search (or_left, or_rest)) (2 * j + k) (omega arith);
      corners = λ j k h l. known_inside _ s.triangles (search (or_left, or_rest)) (3 * j + k) (omega arith);
    }
  where
    by_place : (i : ℕ) → Dec (i < length s.positions) → nat_abs (get_or s.positions i (pos 0)) ≤ B
    by_place i (yes h) = ltb-false _ _ (none_passes (λ k. beyond B (get_or s.positions k (pos 0))) (length s.positions) in_range i h)
    by_place i (no h) = rw (get_or-eq_default s.positions (pos 0) {n = i} (omega arith)) (omega arith)

pub sound_wider : {s : Scene} {B C : ℕ} → B ≤ C → SoundWithin B s → SoundWithin C s
sound_wider h a = record { few = a.few; within = λ i. le_trans (a.within i) h; ends = a.ends; corners = a.corners }

-- ---- in an accepted scene

pub accepted_sound : {s : Scene} {B : ℕ} → AcceptedWithin B s → SoundWithin B s
accepted_sound {s} {B} a = checked_sound (omega (arith, (accepted_sized a).few_vertices)) a.in_range a.known

-- every coordinate is in range, and so is the 0 that is read past the end
pub accepted_coordinate : {s : Scene} {B : ℕ} → AcceptedWithin B s → (i : ℕ) → nat_abs (get_or s.positions i (pos 0)) ≤ B
accepted_coordinate a i = (accepted_sound a).within i

pub accepted_end : {s : Scene} {B : ℕ} → AcceptedWithin B s → (j k : ℕ) → j < edge_count s → k < 2 → edge_end s j k < vertex_count s
accepted_end a = (accepted_sound a).ends

pub accepted_corner : {s : Scene} {B : ℕ} → AcceptedWithin B s → (j k : ℕ) → j < triangle_count s → k < 3 → corner s j k < vertex_count s
accepted_corner a = (accepted_sound a).corners

-- so it passes in a wider range
pub accepted_wider : {s : Scene} {B C : ℕ} → B ≤ C → AcceptedWithin B s → AcceptedWithin C s
accepted_wider {s} {B} {C} h a =
    record {
      shapely = a.shapely;
      in_range = none_below (λ i. beyond C (get_or s.positions i (pos 0))) (length s.positions) (λ i l. le-ltb C _ (le_trans (accepted_coordinate a i) h));
      known = a.known;
      sewn_well = a.sewn_well;
      distinct = a.distinct;
    }

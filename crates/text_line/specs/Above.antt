-- The scene of the records above a line, with its counts: it passes the checks of a scene. One record more that is not at fault keeps it so.
use Rattle.std.specs.Prelude.{Bool, false, ◌||◌, List, ◌++◌, ◌≡◌, refl, ℕ, ◌+◌, ◌*◌, ◌%◌, ◌≤◌, length}
use Rattle.std.proofs.Common.{ap, ◌∙◌, arith, length-append, ltb-false, eq-eqb}
use Rattle.answers.specs.Answering.{is_given}
use Rattle.answers.specs.Below.{or_left, or_rest}
use Rattle.meaning.specs.Limits.{vertex_limit, edge_limit, triangle_limit, seam_limit}
use Rattle.meaning.specs.Scene.{Scene, Accepted, some_below, vertex_count, edge_count, triangle_count, seam_count, uneven, over_size, wrong_shape, out_of_range, unknown_vertex, broken_seam, repeated_vertex}
use Rattle.meaning.specs.Refusals.{given}
use Rattle.meaning.specs.Text.{Entry, vertex, edge, triangle, seam, coordinates_in, ends_in, corners_in, seam_in, scene_with, none, late, EntryJudged, counts_of}
use Rattle.meaning.specs.declared.SceneCounts.{SceneCounts}
use Rattle.text_line.specs.Reading.{sort_of}
use Rattle.text_line.specs.declared.Sort.{Sort}
use Rattle.text_line.specs.declared.Sort.TheVariants.{Vertex, Edge, Triangle, Seam}

-- no more records than their sizes
pub record Bounded (c : SceneCounts) : Type 0 where
  pub vertices : c.vertices ≤ vertex_limit
  pub edges : c.edges ≤ edge_limit
  pub triangles : c.triangles ≤ triangle_limit
  pub seams : c.seams ≤ seam_limit

unfoldable pub counted_by : SceneCounts → Sort → SceneCounts
counted_by c Vertex = record { vertices = c.vertices + 1; edges = c.edges; triangles = c.triangles; seams = c.seams }
counted_by c Edge = record { vertices = c.vertices; edges = c.edges + 1; triangles = c.triangles; seams = c.seams }
counted_by c Triangle = record { vertices = c.vertices; edges = c.edges; triangles = c.triangles + 1; seams = c.seams }
counted_by c Seam = record { vertices = c.vertices; edges = c.edges; triangles = c.triangles; seams = c.seams + 1 }

-- each list is as long as its count says
pub record Lengths (s : Scene) (c : SceneCounts) : Type 0 where
  pub positions : length s.positions ≡ 6 * c.vertices
  pub edges : length s.edges ≡ 2 * c.edges
  pub triangles : length s.triangles ≡ 3 * c.triangles
  pub seams : length s.seams ≡ 2 * c.seams

pub record Above (s : Scene) (c : SceneCounts) : Type 0 where
  pub accepted : Accepted s
  pub lengths : Lengths s c
  pub bounded : Bounded c

abbrev pub no_counts : SceneCounts
no_counts = record { vertices = 0; edges = 0; triangles = 0; seams = 0 }

pub above_none : Above none no_counts
unfolding some_below
above_none =
    record {
      accepted = record { shapely = refl; in_range = refl; known = refl; sewn_well = refl; distinct = refl };
      lengths = record { positions = refl; edges = refl; triangles = refl; seams = refl };
      bounded = record { vertices = omega arith; edges = omega arith; triangles = omega arith; seams = omega arith };
    }

pub lengths_count : {s : Scene} {c : SceneCounts} → Lengths s c → c ≡ counts_of s
lengths_count {s} {c} l =
    let v : c.vertices ≡ vertex_count s = omega (arith, l.positions) in
    let e : c.edges ≡ edge_count s = omega (arith, l.edges) in
    let t : c.triangles ≡ triangle_count s = omega (arith, l.triangles) in
    let w : c.seams ≡ seam_count s = omega (arith, l.seams) in
    λ i. record { vertices = v i; edges = e i; triangles = t i; seams = w i }

-- ---- a record that is not at fault

pub record Faultless (s : Scene) (r : Entry) : Type 0 where
  pub early : late s r ≡ false
  pub room : over_size (scene_with s r) ≡ false
  pub near : out_of_range (scene_with s r) ≡ false
  pub known : unknown_vertex (scene_with s r) ≡ false
  pub sewn : broken_seam (scene_with s r) ≡ false
  pub once : repeated_vertex (scene_with s r) ≡ false

pub faultless : {s : Scene} (r : Entry) → EntryJudged s r (given tt) → Faultless s r
faultless r a =
    let (h1, a1) = is_given (λ t. Unit {0}) _ _ tt a in
    let (h2, a2) = is_given (λ t. Unit {0}) _ _ tt a1 in
    let (h3, a3) = is_given (λ t. Unit {0}) _ _ tt a2 in
    let (h4, a4) = is_given (λ t. Unit {0}) _ _ tt a3 in
    let (h5, a5) = is_given (λ t. Unit {0}) _ _ tt a4 in
    let (h6, a6) = is_given (λ t. Unit {0}) _ _ tt a5 in
    record { early = h1; room = h2; near = h3; known = h4; sewn = h5; once = h6 }

-- ---- the lists with it

grown : {A : Type 0} (l k : List A) (d n m : ℕ) → length l ≡ d * n → d * n + length k ≡ d * m → length (l ++ k) ≡ d * m
grown l k d n m e f = length-append l k ∙ ap (λ (x : ℕ). x + length k) e ∙ f

pub lengths_more : {s : Scene} {c : SceneCounts} (r : Entry) → Lengths s c → Lengths (scene_with s r) (counted_by c (sort_of r))
unfolding coordinates_in ends_in corners_in seam_in counted_by sort_of
lengths_more {s} {c} (vertex p q) l =
    record {
      positions = grown s.positions _ 6 c.vertices _ l.positions (omega arith);
      edges = grown s.edges _ 2 c.edges _ l.edges (omega arith);
      triangles = grown s.triangles _ 3 c.triangles _ l.triangles (omega arith);
      seams = grown s.seams _ 2 c.seams _ l.seams (omega arith);
    }
lengths_more {s} {c} (edge a b) l =
    record {
      positions = grown s.positions _ 6 c.vertices _ l.positions (omega arith);
      edges = grown s.edges _ 2 c.edges _ l.edges (omega arith);
      triangles = grown s.triangles _ 3 c.triangles _ l.triangles (omega arith);
      seams = grown s.seams _ 2 c.seams _ l.seams (omega arith);
    }
lengths_more {s} {c} (triangle a b d) l =
    record {
      positions = grown s.positions _ 6 c.vertices _ l.positions (omega arith);
      edges = grown s.edges _ 2 c.edges _ l.edges (omega arith);
      triangles = grown s.triangles _ 3 c.triangles _ l.triangles (omega arith);
      seams = grown s.seams _ 2 c.seams _ l.seams (omega arith);
    }
lengths_more {s} {c} (seam i j) l =
    record {
      positions = grown s.positions _ 6 c.vertices _ l.positions (omega arith);
      edges = grown s.edges _ 2 c.edges _ l.edges (omega arith);
      triangles = grown s.triangles _ 3 c.triangles _ l.triangles (omega arith);
      seams = grown s.seams _ 2 c.seams _ l.seams (omega arith);
    }

-- lists of such lengths are even, and not over their sizes where no check found them so
pub shapely : {s : Scene} {c : SceneCounts} → Lengths s c → over_size s ≡ false → wrong_shape s ≡ false
shapely {s} {c} l few =
    let six : length s.positions % 6 ≡ 0 = omega (arith, l.positions) in
    let two : length s.edges % 2 ≡ 0 = omega (arith, l.edges) in
    let three : length s.triangles % 3 ≡ 0 = omega (arith, l.triangles) in
    let pair : length s.seams % 2 ≡ 0 = omega (arith, l.seams) in
    let even : uneven s ≡ false = rw (
      eq-eqb (length s.positions % 6) 0 six,
      eq-eqb (length s.edges % 2) 0 two,
      eq-eqb (length s.triangles % 3) 0 three,
      eq-eqb (length s.seams % 2) 0 pair,
    ) in
    ap (λ (b : Bool). b || over_size s) even ∙ few

pub bounded_by : {s : Scene} {c : SceneCounts} → Lengths s c → over_size s ≡ false → Bounded c
bounded_by {s} {c} l few =
    let v : vertex_count s ≤ vertex_limit = ltb-false _ _ (search (or_left, or_rest)) in
    let e : edge_count s ≤ edge_limit = ltb-false _ _ (search (or_left, or_rest)) in
    let t : triangle_count s ≤ triangle_limit = ltb-false _ _ (search (or_left, or_rest)) in
    let w : seam_count s ≤ seam_limit = ltb-false _ _ (search (or_left, or_rest)) in
    record {
      vertices = omega (arith, v, l.positions);
      edges = omega (arith, e, l.edges);
      triangles = omega (arith, t, l.triangles);
      seams = omega (arith, w, l.seams);
    }

pub above_more : {s : Scene} {c : SceneCounts} (r : Entry) → Above s c → EntryJudged s r (given tt)
    → Above (scene_with s r) (counted_by c (sort_of r))
above_more {s} {c} r a j =
    let f : Faultless s r = faultless r j in
    let l : Lengths (scene_with s r) (counted_by c (sort_of r)) = lengths_more r a.lengths in
    record {
      accepted = record { shapely = shapely l f.room; in_range = f.near; known = f.known; sewn_well = f.sewn; distinct = f.once };
      lengths = l;
      bounded = bounded_by l f.room;
    }

-- What is put into the buffers for a record, and when it can be.
use Rattle.std.specs.Prelude.{Bool, true, false, ◌||◌, ◌≡◌, refl, ℕ, ◌+◌, ◌*◌, ◌≤◌, ◌<◌, leb, negsuc, neg_ℤ, nat_abs, length, take, get_or}
use mathlib.Core.List.{List, [], ◌∷◌, ◌++◌, map}
use Rattle.std.proofs.Common.{sym, ap, ◌∙◌, get_or-take, leb-false, ltb-false}
use native.Mathlib.Omega.{arith}
use Rattle.std.proofs.Math.IntN.{ℤ, pos}
use Rattle.std.proofs.Math.ListN.{get_or-map}
use Rattle.whole.specs.Vector.{Vector}
use Rattle.sequences.specs.Wrote.{Wrote, wrote_none}
use Rattle.answers.specs.Below.{or_left, or_rest}
use Rattle.text_fields.specs.Field.{negative}
use Rattle.text_fields.specs.Ended.{InFront}
use Rattle.meaning.specs.Limits.{coordinate_limit, vertex_limit, edge_limit, triangle_limit, seam_limit}
use Rattle.meaning.specs.Scene.{Scene, scene_of, outside}
use Rattle.meaning.specs.Refusals.{given}
use Rattle.meaning.specs.Text.{Entry, vertex, edge, triangle, seam, coordinates, numbers_of, coordinates_in, ends_in, corners_in, seam_in}
use Rattle.meaning.specs.declared.SceneCounts.{SceneCounts}
use Rattle.text_line.specs.Reading.{sort_of}
use Rattle.text_fields.specs.Tabbed.{sized_at}
use Rattle.text_line.specs.Above.{Above, Bounded, counted_by, Faultless, faultless}
use Rattle.text_line.specs.Checks.{comes_vertex, comes_edge, comes_triangle, SeamComes, comes_seam}
use Rattle.text_line.specs.Judging.{Begun, SeamJudging}
use Rattle.text_line.specs.declared.Sort.{Sort}
use Rattle.text_line.specs.declared.Sort.TheVariants.{Vertex, Edge, Triangle, Seam}

-- ---- numbers from the two buffers

abbrev pub signed_of : Bool → ℕ → ℤ
signed_of true n = neg_ℤ (pos n)
signed_of false n = pos n

abbrev pub signed_at : List ℕ → List Bool → ℕ → ℤ
signed_at sizes minus i = signed_of (get_or minus i false) (get_or sizes i 0)

abbrev pub point_from : List ℕ → List Bool → ℕ → List ℤ
point_from sizes minus k = signed_at sizes minus k ∷ signed_at sizes minus (k + 1) ∷ signed_at sizes minus (k + 2) ∷ []

abbrev pub vertex_from : List ℕ → List Bool → List ℤ
vertex_from sizes minus = point_from sizes minus 0 ++ point_from sizes minus 3

signed_is : (z : ℤ) → signed_of (negative z) (nat_abs z) ≡ z
signed_is (pos n) = refl
signed_is (negsuc n) = refl

minus_at : (zs : List ℤ) (l : List Bool) (i : ℕ) → take (length zs) l ≡ map negative zs → i < length zs → get_or l i false ≡ negative (get_or zs i (pos 0))
minus_at zs l i e h =
    sym (get_or-take (length zs) l i false h) ∙ ap (λ (k : List Bool). get_or k i false) e ∙ get_or-map negative zs i (pos 0)

pub signed_at_lem : {sizes : List ℕ} {minus : List Bool} (zs : List ℤ) (i : ℕ) → InFront zs sizes minus → i < length zs
    → signed_at sizes minus i ≡ get_or zs i (pos 0)
signed_at_lem {sizes} {minus} zs i f h =
    rw (sized_at zs sizes i f.sized h, minus_at zs minus i f.signed h) (signed_is (get_or zs i (pos 0)))

vertex_from_lem : {sizes : List ℕ} {minus : List Bool} (p q : Vector) → InFront (coordinates p q) sizes minus
    → vertex_from sizes minus ≡ coordinates p q
vertex_from_lem {sizes} {minus} p q f =
    let zs : List ℤ = coordinates p q in
    cc (
      signed_at_lem zs 0 f (omega arith),
      signed_at_lem zs 1 f (omega arith),
      signed_at_lem zs 2 f (omega arith),
      signed_at_lem zs 3 f (omega arith),
      signed_at_lem zs 4 f (omega arith),
      signed_at_lem zs 5 f (omega arith),
    )

-- ---- when a record can be put: its numbers fit, and there is a place for it

-- the three sizes from place k on are within the range of coordinates
pub record Near (sizes : List ℕ) (k : ℕ) : Type 0 where
  pub first : get_or sizes k 0 ≤ coordinate_limit
  pub second : get_or sizes (k + 1) 0 ≤ coordinate_limit
  pub third : get_or sizes (k + 2) 0 ≤ coordinate_limit

pub record VertexReady (c : SceneCounts) (sizes : List ℕ) : Type 0 where
  pub start : Near sizes 0
  pub finish : Near sizes 3
  pub place : c.vertices < vertex_limit

pub record EdgeReady (c : SceneCounts) (sizes : List ℕ) : Type 0 where
  pub first : get_or sizes 0 0 < vertex_limit
  pub second : get_or sizes 1 0 < vertex_limit
  pub place : c.edges < edge_limit

pub record TriangleReady (c : SceneCounts) (sizes : List ℕ) : Type 0 where
  pub first : get_or sizes 0 0 < vertex_limit
  pub second : get_or sizes 1 0 < vertex_limit
  pub third : get_or sizes 2 0 < vertex_limit
  pub place : c.triangles < triangle_limit

pub record SeamReady (c : SceneCounts) (sizes : List ℕ) : Type 0 where
  pub first : get_or sizes 0 0 < vertex_limit
  pub second : get_or sizes 1 0 < vertex_limit
  pub place : c.seams < seam_limit

unfoldable pub ReadyAs : Sort → SceneCounts → List ℕ → Type 0
ReadyAs Vertex c sizes = VertexReady c sizes
ReadyAs Edge c sizes = EdgeReady c sizes
ReadyAs Triangle c sizes = TriangleReady c sizes
ReadyAs Seam c sizes = SeamReady c sizes

pub record Ready (sort : Sort) (c : SceneCounts) (sizes : List ℕ) (minus : List Bool) : Type 0 where
  pub sized : 6 ≤ length sizes
  pub signed : 6 ≤ length minus
  pub fits : ReadyAs sort c sizes

module _ {sort : Sort} {c : SceneCounts} {sizes : List ℕ} {minus : List Bool} (r : Ready sort c sizes minus) where
  pub ready_vertex : sort ≡ Vertex → VertexReady c sizes
  unfolding ReadyAs
  ready_vertex e = rw e at r.fits

  pub ready_edge : sort ≡ Edge → EdgeReady c sizes
  unfolding ReadyAs
  ready_edge e = rw e at r.fits

  pub ready_triangle : sort ≡ Triangle → TriangleReady c sizes
  unfolding ReadyAs
  ready_triangle e = rw e at r.fits

  pub ready_seam : sort ≡ Seam → SeamReady c sizes
  unfolding ReadyAs
  ready_seam e = rw e at r.fits

-- the buffers have room for the largest scene
pub record Roomy (lent : Scene) : Type 0 where
  pub positions : 6 * vertex_limit ≤ length lent.positions
  pub edges : 2 * edge_limit ≤ length lent.edges
  pub triangles : 3 * triangle_limit ≤ length lent.triangles
  pub seams : 2 * seam_limit ≤ length lent.seams

-- ---- what is put

pub record PutEntry (c : SceneCounts) (r : Entry) (lent left : Scene) : Type 0 where
  pub positions : Wrote lent.positions (6 * c.vertices) (coordinates_in r) left.positions (6 * (counted_by c (sort_of r)).vertices)
  pub edges : Wrote lent.edges (2 * c.edges) (ends_in r) left.edges (2 * (counted_by c (sort_of r)).edges)
  pub triangles : Wrote lent.triangles (3 * c.triangles) (corners_in r) left.triangles (3 * (counted_by c (sort_of r)).triangles)
  pub seams : Wrote lent.seams (2 * c.seams) (seam_in r) left.seams (2 * (counted_by c (sort_of r)).seams)

-- whatever record of this kind has these numbers
unfoldable pub Put : Sort → SceneCounts → List ℕ → List Bool → Scene → Scene → Type 0
Put Vertex c sizes minus lent left = (p q : Vector) → InFront (coordinates p q) sizes minus → PutEntry c (vertex p q) lent left
Put Edge c sizes minus lent left = (a b : ℕ) → InFront (pos a ∷ pos b ∷ []) sizes minus → PutEntry c (edge a b) lent left
Put Triangle c sizes minus lent left =
    (a b d : ℕ) → InFront (pos a ∷ pos b ∷ pos d ∷ []) sizes minus → PutEntry c (triangle a b d) lent left
Put Seam c sizes minus lent left = (a b : ℕ) → InFront (pos a ∷ pos b ∷ []) sizes minus → PutEntry c (seam a b) lent left

-- ---- the laws

-- a vertex number of a record that is not at fault
small : {c : SceneCounts} → Bounded c → (zs : List ℤ) (sizes : List ℕ) (i : ℕ) → take (length zs) sizes ≡ map nat_abs zs → i < length zs
    → leb c.vertices (nat_abs (get_or zs i (pos 0))) ≡ false → get_or sizes i 0 < vertex_limit
small {c} b zs sizes i e h k =
    rw (sized_at zs sizes i e h) (omega (arith, leb-false c.vertices (nat_abs (get_or zs i (pos 0))) k, b.vertices))

-- a record that may stand below a scene can be put
pub ready_entry : {s : Scene} {c : SceneCounts} {sizes : List ℕ} {minus : List Bool} (r : Entry) → Above s c → Begun s r (given tt)
    → InFront (numbers_of r) sizes minus → ReadyAs (sort_of r) c sizes
unfolding ReadyAs sort_of numbers_of Begun SeamJudging
ready_entry {s} {c} {sizes} {minus} (vertex p q) a b f =
    let zs : List ℤ = coordinates p q in
    let z : Faultless s (vertex p q) = faultless (vertex p q) b in
    let k = comes_vertex a p q in
    let near : outside p.x || outside p.y || outside p.z || outside q.x || outside q.y || outside q.z ≡ false =
    sym k.range ∙ z.near in
    record {
      start = record {
        first = rw (sized_at zs sizes 0 f.sized (omega arith)) (ltb-false _ _ (search (or_left, or_rest)));
        second = rw (sized_at zs sizes 1 f.sized (omega arith)) (ltb-false _ _ (search (or_left, or_rest)));
        third = rw (sized_at zs sizes 2 f.sized (omega arith)) (ltb-false _ _ (search (or_left, or_rest)));
      };
      finish = record {
        first = rw (sized_at zs sizes 3 f.sized (omega arith)) (ltb-false _ _ (search (or_left, or_rest)));
        second = rw (sized_at zs sizes 4 f.sized (omega arith)) (ltb-false _ _ (search (or_left, or_rest)));
        third = rw (sized_at zs sizes 5 f.sized (omega arith)) (ltb-false _ _ (search (or_left, or_rest)));
      };
      place = leb-false _ _ (sym k.over ∙ z.room);
    }
ready_entry {s} {c} {sizes} {minus} (edge i j) a b f =
    let zs : List ℤ = pos i ∷ pos j ∷ [] in
    let z : Faultless s (edge i j) = faultless (edge i j) b in
    let k = comes_edge a i j in
    let known : leb c.vertices i || leb c.vertices j ≡ false = sym k.known ∙ z.known in
    record {
      first = small a.bounded zs sizes 0 f.sized (omega arith) (search (or_left, or_rest));
      second = small a.bounded zs sizes 1 f.sized (omega arith) (search (or_left, or_rest));
      place = leb-false _ _ (sym k.over ∙ z.room);
    }
ready_entry {s} {c} {sizes} {minus} (triangle i j d) a b f =
    let zs : List ℤ = pos i ∷ pos j ∷ pos d ∷ [] in
    let z : Faultless s (triangle i j d) = faultless (triangle i j d) b in
    let k = comes_triangle a i j d in
    let known : leb c.vertices i || leb c.vertices j || leb c.vertices d ≡ false = sym k.known ∙ z.known in
    record {
      first = small a.bounded zs sizes 0 f.sized (omega arith) (search (or_left, or_rest));
      second = small a.bounded zs sizes 1 f.sized (omega arith) (search (or_left, or_rest));
      third = small a.bounded zs sizes 2 f.sized (omega arith) (search (or_left, or_rest));
      place = leb-false _ _ (sym k.over ∙ z.room);
    }
ready_entry {s} {c} {sizes} {minus} (seam i j) a b f =
    let zs : List ℤ = pos i ∷ pos j ∷ [] in
    let k : SeamComes a i j = comes_seam a i j in
    let known : leb c.vertices i || leb c.vertices j ≡ false = sym k.known ∙ b.known in
    record {
      first = small a.bounded zs sizes 0 f.sized (omega arith) (search (or_left, or_rest));
      second = small a.bounded zs sizes 1 f.sized (omega arith) (search (or_left, or_rest));
      place = leb-false _ _ (sym k.over ∙ b.room);
    }

-- what was put is the record's
module _ (c : SceneCounts) (sizes : List ℕ) (minus : List Bool) (lent : Scene) where
  put_as : {left : Scene} (r : Entry) → InFront (numbers_of r) sizes minus → Put (sort_of r) c sizes minus lent left → PutEntry c r lent left
  unfolding Put sort_of numbers_of
  put_as (vertex p q) f w = w p q f
  put_as (edge a b) f w = w a b f
  put_as (triangle a b d) f w = w a b d f
  put_as (seam a b) f w = w a b f

  pub put_entry : {sort : Sort} {left : Scene} (r : Entry) → sort_of r ≡ sort → InFront (numbers_of r) sizes minus
      → Put sort c sizes minus lent left → PutEntry c r lent left
  put_entry r e f w = put_as r f (rw e w)

  pub puts_vertex : {o : List ℤ} → Wrote lent.positions (6 * c.vertices) (vertex_from sizes minus) o (6 * c.vertices + 6)
      → Put Vertex c sizes minus lent (scene_of o lent.edges lent.triangles lent.seams)
  unfolding Put counted_by sort_of coordinates_in ends_in corners_in seam_in
  puts_vertex w p q f =
      let next : 6 * c.vertices + 6 ≡ 6 * (c.vertices + 1) = omega arith in
      record {
        positions = rw (vertex_from_lem p q f, next) at w;
        edges = wrote_none lent.edges (2 * c.edges);
        triangles = wrote_none lent.triangles (3 * c.triangles);
        seams = wrote_none lent.seams (2 * c.seams);
      }

  pub puts_edge : {o : List ℕ} → Wrote lent.edges (2 * c.edges) (get_or sizes 0 0 ∷ get_or sizes 1 0 ∷ []) o (2 * c.edges + 2)
      → Put Edge c sizes minus lent (scene_of lent.positions o lent.triangles lent.seams)
  unfolding Put counted_by sort_of coordinates_in ends_in corners_in seam_in
  puts_edge w a b f =
      let zs : List ℤ = pos a ∷ pos b ∷ [] in
      let next : 2 * c.edges + 2 ≡ 2 * (c.edges + 1) = omega arith in
      record {
        positions = wrote_none lent.positions (6 * c.vertices);
        edges = rw (sized_at zs sizes 0 f.sized (omega arith), sized_at zs sizes 1 f.sized (omega arith), next) at w;
        triangles = wrote_none lent.triangles (3 * c.triangles);
        seams = wrote_none lent.seams (2 * c.seams);
      }

  pub puts_triangle : {o : List ℕ} → Wrote lent.triangles (3 * c.triangles) (get_or sizes 0 0 ∷ get_or sizes 1 0 ∷ get_or sizes 2 0 ∷ []) o (3 * c.triangles + 3)
      → Put Triangle c sizes minus lent (scene_of lent.positions lent.edges o lent.seams)
  unfolding Put counted_by sort_of coordinates_in ends_in corners_in seam_in
  puts_triangle w a b d f =
      let zs : List ℤ = pos a ∷ pos b ∷ pos d ∷ [] in
      let next : 3 * c.triangles + 3 ≡ 3 * (c.triangles + 1) = omega arith in
      record {
        positions = wrote_none lent.positions (6 * c.vertices);
        edges = wrote_none lent.edges (2 * c.edges);
        triangles = rw (
          sized_at zs sizes 0 f.sized (omega arith),
          sized_at zs sizes 1 f.sized (omega arith),
          sized_at zs sizes 2 f.sized (omega arith),
          next,
        ) at w;
        seams = wrote_none lent.seams (2 * c.seams);
      }

  pub puts_seam : {o : List ℕ} → Wrote lent.seams (2 * c.seams) (get_or sizes 0 0 ∷ get_or sizes 1 0 ∷ []) o (2 * c.seams + 2)
      → Put Seam c sizes minus lent (scene_of lent.positions lent.edges lent.triangles o)
  unfolding Put counted_by sort_of coordinates_in ends_in corners_in seam_in
  puts_seam w a b f =
      let zs : List ℤ = pos a ∷ pos b ∷ [] in
      let next : 2 * c.seams + 2 ≡ 2 * (c.seams + 1) = omega arith in
      record {
        positions = wrote_none lent.positions (6 * c.vertices);
        edges = wrote_none lent.edges (2 * c.edges);
        triangles = wrote_none lent.triangles (3 * c.triangles);
        seams = rw (sized_at zs sizes 0 f.sized (omega arith), sized_at zs sizes 1 f.sized (omega arith), next) at w;
      }

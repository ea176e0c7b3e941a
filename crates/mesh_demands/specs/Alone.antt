-- A pair alone: its four vertices in rising order of the vertex stood for, and its triangle or its two edges, as a scene without seams. The scene is accepted
-- where these four are in range, and the library answers a word of it, or a contact, exactly when the pair has it in the mesh.
use Rattle.std.specs.Prelude.{ℕ, ◌+◌, ◌*◌, ◌≤◌, ◌<◌, false, ◌≡◌, pos, nat_abs, length, get_or}
use mathlib.Core.List.Memᴰ
use mathlib.Core.List.{List, [], ◌∷◌, ◌++◌, Memᴰ}
use Rattle.std.proofs.Math.Logic.{⊎_elim}
use Rattle.std.proofs.Math.Path.{refl}
use Rattle.std.proofs.Common.{◌∙◌, arith}
use borrow.Author.Tests.{lt-leb, ltb-false}
use Rattle.sequences.specs.Rising.{Rising}
use Rattle.meaning.specs.Scene.{Scene, vertex_count, edge_count, triangle_count, beyond, reaches_beyond}
use Rattle.meaning.specs.Motion.{first_part, second_part}
use Rattle.meaning.specs.Refusals.{not_there, shares}
use Rattle.meaning.specs.declared.Kind.{Kind}
use Rattle.meaning.specs.declared.Kind.TheVariants.{PointTriangle, EdgeEdge}
use Rattle.theory.specs.Bounds.{Every, every_imp}
use Rattle.theory.specs.Rewritten.{WellMade}
use Rattle.theory.specs.Written.{ends_written, corners_written, Different}
use Rattle.answers.specs.Below.{or_left, or_rest, none_passes}
use Rattle.scene_checks.specs.Facts.{vertex_inside}
use Rattle.list_pairs.specs.InOrder.{FirstBelow}
use Rattle.mesh_demands.specs.Part.{first_place, second_place}
use Rattle.mesh_demands.specs.Meshes.{Mesh, mesh_known, mesh_made}
use Rattle.mesh_demands.specs.Sorted.{in_order, in_order_moved, in_order_rises, member_moved, as_long, every_member}
use Rattle.mesh_demands.specs.CutOut.{place_in, place_there, cut_out, cut_at, OneOf, InRange, Cuttable, vertices_many, edges_many, triangles_many}
use Rattle.theory.specs.Rearranged.{rearranged_back}

-- ---- the scene

-- the four vertices of a pair, and its edges and triangles; of two edges the lower place stands first
abbrev pub vertices_of : Scene → Kind → ℕ → ℕ → List ℕ
vertices_of s kind i j = first_part s kind i ++ second_part s kind j

unfoldable pub edges_of : Kind → ℕ → ℕ → List ℕ
edges_of PointTriangle i j = []
edges_of EdgeEdge i j = i ∷ j ∷ []

unfoldable pub triangles_of : Kind → ℕ → ℕ → List ℕ
triangles_of PointTriangle i j = j ∷ []
triangles_of EdgeEdge i j = []

abbrev pub four_of : Scene → Kind → ℕ → ℕ → List ℕ
four_of s kind i j = in_order s (vertices_of s kind i j)

abbrev pub alone : Scene → Kind → ℕ → ℕ → Scene
alone s kind i j = cut_out s (four_of s kind i j) (edges_of kind i j) (triangles_of kind i j)

-- the places of the pair in it: the point where it stands among the four, and triangle 0; or the edges 0 and 1
unfoldable pub alone_first : Scene → Kind → ℕ → ℕ → ℕ
alone_first s PointTriangle i j = place_in (four_of s PointTriangle i j) i
alone_first s EdgeEdge i j = 0

unfoldable pub alone_second : Kind → ℕ
alone_second PointTriangle = 0
alone_second EdgeEdge = 1

-- a pair of a mesh as the list writes it, which shares no vertex
pub record Apart (s : Scene) (kind : Kind) (i j : ℕ) : Type 0 where
  pub there : not_there s kind i j ≡ false
  pub ordered : FirstBelow kind i j
  pub unshared : shares s kind i j ≡ false

-- ---- four vertices that differ

-- no two of them stand for one: not within the triangle or an edge, for it is a mesh, and not across, for the pair shares none
all_differ : (s : Scene) → Mesh s → (kind : Kind) (i j : ℕ) → Apart s kind i j → Different s (vertices_of s kind i j)
unfolding first_part second_part shares WellMade
all_differ s mesh PointTriangle i j a =
    let e : shares s PointTriangle i j ≡ false = a.unshared in
    ((search (or_left, or_rest), (search (or_left, or_rest), (search (or_left, or_rest), tt))), (mesh_made mesh PointTriangle i j a.there).1)
all_differ s mesh EdgeEdge i j a =
    let e : shares s EdgeEdge i j ≡ false = a.unshared in
    let made = mesh_made mesh EdgeEdge i j a.there in
    ((made.1.0.0, (search (or_left, or_rest), (search (or_left, or_rest), tt))), ((search (or_left, or_rest), (search (or_left, or_rest), tt)), made.3))

-- each of them is there
all_there : (s : Scene) → Mesh s → (kind : Kind) (i j : ℕ) → not_there s kind i j ≡ false → Every (λ v. v < vertex_count s) (vertices_of s kind i j)
unfolding first_part second_part
all_there s mesh PointTriangle i j there =
    let known = mesh_known mesh PointTriangle i j there in
    (known.first.0, known.second)
all_there s mesh EdgeEdge i j there =
    let known = mesh_known mesh EdgeEdge i j there in
    (known.first.0, (known.first.1.0, known.second))

pub four_long : (s : Scene) (kind : Kind) (i j : ℕ) → length (vertices_of s kind i j) ≡ 4
unfolding first_part second_part
four_long s PointTriangle i j = refl
four_long s EdgeEdge i j = refl

pub few_parts : (kind : Kind) (i j : ℕ) → (length (edges_of kind i j) ≤ 2) × (length (triangles_of kind i j) ≤ 1)
unfolding edges_of triangles_of
few_parts PointTriangle i j = (omega arith, omega arith)
few_parts EdgeEdge i j = (omega arith, omega arith)

-- each stands in a list of four
module _ {a b c d : ℕ} where
  first : Memᴰ a (a ∷ b ∷ c ∷ d ∷ [])
  first = Memᴰ.head refl

  second : Memᴰ b (a ∷ b ∷ c ∷ d ∷ [])
  second = Memᴰ.tail (Memᴰ.head refl)

  third : Memᴰ c (a ∷ b ∷ c ∷ d ∷ [])
  third = Memᴰ.tail (Memᴰ.tail (Memᴰ.head refl))

  fourth : Memᴰ d (a ∷ b ∷ c ∷ d ∷ [])
  fourth = Memᴰ.tail (Memᴰ.tail (Memᴰ.tail (Memᴰ.head refl)))

module _ {s : Scene} (mesh : Mesh s) where
  -- every vertex of the pair is one of the four
  among_four : (kind : Kind) (i j v : ℕ) → OneOf (vertices_of s kind i j) v → OneOf (four_of s kind i j) v
  among_four kind i j v m = member_moved (rearranged_back (in_order_moved s (vertices_of s kind i j))) m

  all_among : (kind : Kind) (i j : ℕ) (l : List ℕ) → Every (OneOf (vertices_of s kind i j)) l → Every (OneOf (four_of s kind i j)) l
  all_among kind i j = every_imp (OneOf (vertices_of s kind i j)) (OneOf (four_of s kind i j)) (among_four kind i j)

  -- of two edges the lower place stands first
  edges_in_order : (kind : Kind) (i j : ℕ) → FirstBelow kind i j → Rising ◌<◌ (edges_of kind i j)
  unfolding edges_of Rising FirstBelow
  edges_in_order PointTriangle i j l = tt
  edges_in_order EdgeEdge i j l = (
    λ b m. let below : i < j = l in rw (Memᴰ.eq_of_singleton m) (omega arith),
    (λ b m. absurd (Memᴰ.not-nil m), tt),
  )

  -- its triangle, or its two edges
  pub edges_fit : (kind : Kind) (i j : ℕ) → not_there s kind i j ≡ false → (e : ℕ) → OneOf (edges_of kind i j) e
      → (e < edge_count s) × Every (OneOf (four_of s kind i j)) (ends_written s e) × Different s (ends_written s e)
  unfolding edges_of first_part second_part WellMade
  edges_fit PointTriangle i j there e m = absurd (Memᴰ.not-nil m)
  edges_fit EdgeEdge i j there e m =
      let made = mesh_made mesh EdgeEdge i j there in
      ⊎_elim
      (λ (q : e ≡ i). rw q (made.0, all_among EdgeEdge i j (ends_written s i) (first, (second, tt)), made.1))
      (λ n. let q : e ≡ j = Memᴰ.eq_of_singleton n in rw q (made.2, all_among EdgeEdge i j (ends_written s j) (third, (fourth, tt)), made.3))
      (Memᴰ.cases_cons m)

  pub triangles_fit : (kind : Kind) (i j : ℕ) → not_there s kind i j ≡ false → (t : ℕ) → OneOf (triangles_of kind i j) t
      → (t < triangle_count s) × Every (OneOf (four_of s kind i j)) (corners_written s t) × Different s (corners_written s t)
  unfolding triangles_of first_part second_part WellMade
  triangles_fit EdgeEdge i j there t m = absurd (Memᴰ.not-nil m)
  triangles_fit PointTriangle i j there t m =
      let made = mesh_made mesh PointTriangle i j there in
      rw (Memᴰ.eq_of_singleton m)
      (made.0, all_among PointTriangle i j (corners_written s j) (second, (third, (fourth, tt))), made.1)

  -- the pair's places stand at its places in the mesh, and are there
  pub first_back : (kind : Kind) (i j : ℕ) → first_place (cut_at (four_of s kind i j) (edges_of kind i j) (triangles_of kind i j)) kind (alone_first s kind i j) ≡ i
  unfolding first_place alone_first edges_of first_part second_part
  first_back PointTriangle i j = (place_there (four_of s PointTriangle i j) i (among_four PointTriangle i j i first)).1
  first_back EdgeEdge i j = refl

  pub second_back : (kind : Kind) (i j : ℕ) → second_place (cut_at (four_of s kind i j) (edges_of kind i j) (triangles_of kind i j)) kind (alone_second kind) ≡ j
  unfolding second_place alone_second edges_of triangles_of
  second_back PointTriangle i j = refl
  second_back EdgeEdge i j = refl

  -- the point is one of the four
  pub own_first_below : (i j : ℕ) → alone_first s PointTriangle i j < 4
  unfolding alone_first first_part second_part
  own_first_below i j =
      omega (arith, (place_there (four_of s PointTriangle i j) i (among_four PointTriangle i j i first)).0, as_long (in_order_moved s (vertices_of s PointTriangle i j)), four_long s PointTriangle i j)

  pub alone_there : (kind : Kind) (i j : ℕ) → not_there (alone s kind i j) kind (alone_first s kind i j) (alone_second kind) ≡ false
  unfolding not_there alone_first alone_second edges_of triangles_of first_part second_part
  alone_there PointTriangle i j =
      let four = four_of s PointTriangle i j in
      rw (lt-leb (vertex_count (alone s PointTriangle i j)) (place_in four i) (omega (arith, (place_there four i (among_four PointTriangle i j i first)).0, vertices_many s four [] (j ∷ []))), lt-leb (triangle_count (alone s PointTriangle i j)) 0 (omega (arith, triangles_many s four [] (j ∷ []))))
      refl
  alone_there EdgeEdge i j =
      let four = four_of s EdgeEdge i j in
      rw (lt-leb (edge_count (alone s EdgeEdge i j)) 0 (omega (arith, edges_many s four (i ∷ j ∷ []) [])), lt-leb (edge_count (alone s EdgeEdge i j)) 1 (omega (arith, edges_many s four (i ∷ j ∷ []) [])))
      refl

  module _ (kind : Kind) (i j : ℕ) (a : Apart s kind i j) where
    pub can_be_cut : Cuttable s (four_of s kind i j) (edges_of kind i j) (triangles_of kind i j)
    can_be_cut = record {
      vertices = λ v m.
          every_member (λ v. v < vertex_count s) (vertices_of s kind i j) (all_there s mesh kind i j a.there)
          (member_moved (in_order_moved s (vertices_of s kind i j)) m);
      vertices_rise = in_order_rises s (vertices_of s kind i j) (all_differ s mesh kind i j a);
      edges = λ e m. let f = edges_fit kind i j a.there e m in (f.0, f.1);
      edges_rise = edges_in_order kind i j a.ordered;
      triangles = λ t m. let f = triangles_fit kind i j a.there t m in (f.0, f.1);
    }

    pub four_vertices : vertex_count (alone s kind i j) ≡ 4
    four_vertices =
        vertices_many s (four_of s kind i j) (edges_of kind i j) (triangles_of kind i j)
        ∙ as_long (in_order_moved s (vertices_of s kind i j)) ∙ four_long s kind i j

-- ---- the range

-- a mesh that is in range has every vertex in range: the pair's four among them
pub mesh_in_range : (B : ℕ) (s : Scene) → reaches_beyond B s ≡ false → (v : ℕ) → v < vertex_count s → InRange B s v
mesh_in_range B s e v h k l =
    ltb-false B (nat_abs (get_or s.positions (6 * v + k) (pos 0)))
    (none_passes (λ i. beyond B (get_or s.positions i (pos 0))) (length s.positions) e (6 * v + k) (vertex_inside s v k h l))

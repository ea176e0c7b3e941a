-- The points of a part are those of the whole: each piece of a pair has the same points in the same order, the pair shares a vertex in both or in
-- neither, and its swept boxes meet in both or in neither.
use Prim.Native.Nat.{ℕ, ◌<◌}
use Rattle.std.specs.Prelude.{false, not, ◌&&◌, ◌≡◌}
use Rattle.std.proofs.Math.Bool.{◌||◌}
use mathlib.Core.List.{List, [], ◌∷◌, map}
use Rattle.std.proofs.Math.Path.{refl, sym, ap₂}
use Rattle.std.proofs.Common.{◌∙◌, arith}
use borrow.Author.Tests.{lt-leb}
use Rattle.meaning.specs.Scene.{Scene, vertex_count, edge_count, triangle_count, same, counts_as}
use Rattle.meaning.specs.Refusals.{not_there, shares}
use Rattle.meaning.specs.Motion.{first_part, second_part}
use Rattle.meaning.specs.declared.Kind.{Kind}
use Rattle.meaning.specs.declared.Kind.TheVariants.{PointTriangle, EdgeEdge}
use Rattle.theory.specs.AnyOrder.{any, any_rearranged, shares_corners, shares_ends}
use Rattle.theory.specs.Bounds.{Every}
use Rattle.theory.specs.Moved.{Known}
use Rattle.theory.specs.Rewritten.{WellMade}
use Rattle.theory.specs.Written.{ends_written, corners_written}
use Rattle.mesh_demands.specs.Part.{Places, PartOf, first_place, second_place}
use Rattle.mesh_demands.specs.Order.{neither_below}

module _ {m : Places} {p s : Scene} (h : PartOf m p s) where
  abbrev pub There : ℕ → Type 0
  There v = v < vertex_count p

  -- ---- the order of vertices

  -- that they are the same follows from their order
  pub same_kept : (v w : ℕ) → There v → There w → same s (m.vertex v) (m.vertex w) ≡ same p v w
  same_kept v w a b =
      neither_below (counts_as s (m.vertex v)) (counts_as s (m.vertex w))
      ∙ ap₂ (λ x y. not x && not y) (h.order v w a b) (h.order w v b a)
      ∙ sym (neither_below (counts_as p v) (counts_as p w))

  -- ---- the pieces of a pair

  pub edges_rise_lem : (i j : ℕ) → i < j → j < edge_count p → m.edge i < m.edge j
  edges_rise_lem i j l k = omega (arith, h.edges_rise i j l k)

  -- ---- sharing a vertex

  any_kept : (v : ℕ) → There v → (l : List ℕ) → Every There l → any (same s (m.vertex v)) (map m.vertex l) ≡ any (same p v) l
  unfolding any
  any_kept v a [] k = refl
  any_kept v a (w ∷ l) k = ap₂ ◌||◌ (same_kept v w a k.0) (any_kept v a l k.1)

  any_of_both : (k l : List ℕ) → Every There k → Every There l
      → any (λ a. any (same s a) (map m.vertex l)) (map m.vertex k) ≡ any (λ a. any (same p a) l) k
  unfolding any
  any_of_both [] l a b = refl
  any_of_both (v ∷ k) l a b = ap₂ ◌||◌ (any_kept v a.0 l b) (any_of_both k l a.1 b)

  pub shares_kept : (kind : Kind) (i j : ℕ) → Known p kind i j → WellMade p kind i j
      → shares s kind (first_place m kind i) (second_place m kind j) ≡ shares p kind i j
  unfolding any first_place second_place first_part second_part WellMade
  shares_kept PointTriangle i j known made =
      shares_corners s (m.vertex i) (m.triangle j) ∙ sym (any_rearranged (same s (m.vertex i)) (h.triangles j made.0))
      ∙ any_kept i known.first.0 (corners_written p j) known.second
      ∙ sym (shares_corners p i j)
  shares_kept EdgeEdge i j known made =
      shares_ends s (m.edge i) (m.edge j)
      ∙ sym (any_rearranged (λ a. any (same s a) (ends_written s (m.edge j))) (h.edges i made.0))
      ∙ each (map m.vertex (ends_written p i))
      ∙ any_of_both (ends_written p i) (ends_written p j) known.first known.second
      ∙ sym (shares_ends p i j)
    where
      each : (k : List ℕ) → any (λ a. any (same s a) (ends_written s (m.edge j))) k ≡ any (λ a. any (same s a) (map m.vertex (ends_written p j))) k
      each [] = refl
      each (a ∷ k) = ap₂ ◌||◌ (sym (any_rearranged (same s a) (h.edges j made.2))) (each k)

  -- ---- the pair is there

  pub there_too : (kind : Kind) (i j : ℕ) → Known p kind i j → WellMade p kind i j
      → not_there s kind (first_place m kind i) (second_place m kind j) ≡ false
  unfolding not_there first_place second_place first_part WellMade
  there_too PointTriangle i j known made =
      rw (lt-leb (vertex_count s) (m.vertex i) (h.vertices_there i known.first.0), lt-leb (triangle_count s) (m.triangle j) (h.triangles_there j made.0)) refl
  there_too EdgeEdge i j known made =
      rw (lt-leb (edge_count s) (m.edge i) (h.edges_there i made.0), lt-leb (edge_count s) (m.edge j) (h.edges_there j made.2)) refl

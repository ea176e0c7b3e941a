-- Clean at the start, nothing touched: clean at the end, for a scene or a mesh of any size in which every side of a triangle is an edge.
use Rattle.std.specs.Prelude.{ℕ, ◌<◌, ◌≡◌, ◌↔◌, Bool, false, ◌||◌, leb}
use Rattle.std.proofs.Common.{arith}
use borrow.Author.Tests.{lt-leb, leb-false}
use Rattle.meaning.specs.Scene.{Scene, vertex_count, edge_count, triangle_count, edge_end, corner, same}
use Rattle.meaning.specs.Refusals.{not_there, shares}
use Rattle.meaning.specs.Pierced.{Pierced, no_edge_or_triangle, end_is_corner}
use Rattle.meaning.specs.declared.Frame.TheVariants.{Start, End}
use Rattle.meaning.specs.declared.Kind.TheVariants.{PointTriangle, EdgeEdge}
use Rattle.answers.specs.Below.{or_left, or_rest}
use Rattle.pierced_laws.specs.SomeWeights.{SomeTouches}
use Rattle.clean_demands.specs.Sides.{Between, along, against}
use Rattle.clean_demands.proofs.OnePair.{stays_pierced}
use Rattle.clean_demands.specs.Mesh.{WellMade, EdgeBetween, SidesAreEdges, NothingTouched, CleanAt}

none_of_three : (a b c : Bool) → a || b || c ≡ false → (a ≡ false) × (b ≡ false) × (c ≡ false)
none_of_three a b c h = (or_left a b (or_left (a || b) c h), or_rest a b (or_left (a || b) c h), or_rest (a || b) c h)

-- a vertex that shares none with a triangle counts as none of its corners
no_corner : (s : Scene) (v j : ℕ) → shares s PointTriangle v j ≡ false
    → (same s v (corner s j 0) ≡ false) × (same s v (corner s j 1) ≡ false) × (same s v (corner s j 2) ≡ false)
unfolding shares
no_corner s v j h = none_of_three (same s v (corner s j 0)) (same s v (corner s j 1)) (same s v (corner s j 2)) h

module _ (s : Scene) (i j : ℕ) (apart : end_is_corner s i j ≡ false) where
  -- neither end of the edge counts as that vertex
  record Away (c : ℕ) : Type 0 where
    first : same s (edge_end s i 0) c ≡ false
    second : same s (edge_end s i 1) c ≡ false

  first_apart : shares s PointTriangle (edge_end s i 0) j ≡ false
  first_apart = or_left (shares s PointTriangle (edge_end s i 0) j) (shares s PointTriangle (edge_end s i 1) j) apart

  second_apart : shares s PointTriangle (edge_end s i 1) j ≡ false
  second_apart = or_rest (shares s PointTriangle (edge_end s i 0) j) (shares s PointTriangle (edge_end s i 1) j) apart

  away : Away (corner s j 0) × Away (corner s j 1) × Away (corner s j 2)
  away =
      let f = no_corner s (edge_end s i 0) j first_apart in
      let g = no_corner s (edge_end s i 1) j second_apart in
      (record { first = f.0; second = g.0 }, record { first = f.1; second = g.1 }, record { first = f.2; second = g.2 })

  -- so it shares none with an edge between two of them
  side_apart : (x a b : ℕ) → Between s x a b → Away a → Away b → shares s EdgeEdge i x ≡ false
  unfolding shares
  side_apart x a b (along h k) p q = rw (h, k, p.first, q.first, p.second, q.second)
  side_apart x a b (against h k) p q = rw (h, k, p.first, q.first, p.second, q.second)

both_there : (m n i j : ℕ) → i < m → j < n → leb m i || leb n j ≡ false
both_there m n i j h k = rw (lt-leb m i h, lt-leb n j k)

module _ {s : Scene} (well : WellMade s) (sides : SidesAreEdges s) (nothing : NothingTouched s) where
  -- each edge and each triangle without a shared vertex: pierced at the start exactly when at the end
  pub pierced_alike : (i j : ℕ) → no_edge_or_triangle s i j ≡ false → end_is_corner s i j ≡ false → Pierced s Start i j ↔ Pierced s End i j
  unfolding not_there
  pierced_alike i j there apart =
      let edge : i < edge_count s = leb-false (edge_count s) i (or_left (leb (edge_count s) i) (leb (triangle_count s) j) there) in
      let triangle : j < triangle_count s = leb-false (triangle_count s) j (or_rest (leb (edge_count s) i) (leb (triangle_count s) j) there) in
      let x = sides.first j triangle in
      let y = sides.second j triangle in
      let z = sides.third j triangle in
      stays_pierced well.in_one_place i j x.edge y.edge z.edge
      (record { first = x.between; second = y.between; third = z.between })
      (record {
        first_end = nothing.none PointTriangle (edge_end s i 0) j (both_there (vertex_count s) (triangle_count s) (edge_end s i 0) j (well.ends i 0 edge (omega arith)) triangle) (first_apart s i j apart);
        second_end = nothing.none PointTriangle (edge_end s i 1) j (both_there (vertex_count s) (triangle_count s) (edge_end s i 1) j (well.ends i 1 edge (omega arith)) triangle) (second_apart s i j apart);
        first_side = side i j edge apart x (away s i j apart).0 (away s i j apart).1;
        second_side = side i j edge apart y (away s i j apart).1 (away s i j apart).2;
        third_side = side i j edge apart z (away s i j apart).2 (away s i j apart).0;
      })
    where
      side : (i j : ℕ) → i < edge_count s → (apart : end_is_corner s i j ≡ false) → {a b : ℕ} (e : EdgeBetween s a b) → Away s i j apart a → Away s i j apart b → ¬ SomeTouches s EdgeEdge i e.edge
      side i j edge apart {a} {b} e p q =
          nothing.none EdgeEdge i e.edge (both_there (edge_count s) (edge_count s) i e.edge edge e.there) (side_apart s i j apart e.edge a b e.between p q)

  -- so a mesh that is clean at the start is clean at the end
  pub clean_at_the_end : CleanAt s Start → CleanAt s End
  clean_at_the_end clean = record { none = λ i j there apart p. clean.none i j there apart ((pierced_alike i j there apart).1 p) }

  -- and was clean at the start where it is clean at the end
  pub clean_at_the_start : CleanAt s End → CleanAt s Start
  clean_at_the_start clean = record { none = λ i j there apart p. clean.none i j there apart ((pierced_alike i j there apart).0 p) }

-- An entry of a mesh's list is one number of 64 bits: 2^63 for ee or 0 for pt, plus 2^32 times the first place, plus the second. Where there
-- are at most 2^30 parts of each kind, no two pairs make the same number, and the numbers rise in the list's order.
use Rattle.std.specs.Prelude.{ℕ, ◌+◌, ◌*◌, ◌/◌, ◌%◌, ◌^◌, ◌≤◌, ◌<◌, true, false, ◌≡◌, refl, ltb}
use mathlib.Core.List.{List, ◌++◌, map, Memᴰ}
use Rattle.std.proofs.Common.{⊎_elim, sym, ap, ◌∙◌, arith, lt-ltb, le-ltb}
use Rattle.sequences.specs.Chosen.{chosen_members}
use Rattle.sequences.specs.Gather.{gather, gather_from}
use Rattle.sequences.specs.Mapped.{map_rising}
use Rattle.sequences.specs.Pick.{pick}
use Rattle.sequences.specs.Rising.{Rising, rising_append, rising_gather, rising_chosen}
use Rattle.meaning.specs.Limits.{part_limit}
use Rattle.meaning.specs.Scene.{Scene, vertex_count, edge_count, triangle_count}
use Rattle.meaning.specs.List.{Pair, pair, pairs}
use Rattle.meaning.specs.MeshRows.{row_test, row_count, vertex_row, edge_row, rows_in, mesh_kind_part, mesh_number, mesh_entries}
use Rattle.meaning.specs.declared.Kind.{Kind}
use Rattle.meaning.specs.declared.Kind.TheVariants.{PointTriangle, EdgeEdge}
use Rattle.meaning.specs.declared.RowPairs.{RowPairs}
use Rattle.meaning.specs.declared.RowPairs.TheVariants.{Listed}
use Rattle.mesh_laws.specs.Rows.{rows_in_turn, all_rows}

-- at most 2^30 parts of each kind
pub record MeshSized (s : Scene) : Type 0 where
  pub few_vertices : vertex_count s ≤ part_limit
  pub few_edges : edge_count s ≤ part_limit
  pub few_triangles : triangle_count s ≤ part_limit

-- ---- a number and its pair

-- a pair of parts of a mesh
pub record Within (p : Pair) : Type 0 where
  pub first_few : p.first < 1_073_741_824
  pub second_few : p.second < 1_073_741_824

abbrev pub mesh_pair_of : ℕ → Pair
mesh_pair_of n =
    pair (pick (ltb n 9_223_372_036_854_775_808) PointTriangle EdgeEdge) (n / 4_294_967_296 % 2_147_483_648) (n % 4_294_967_296)

-- the numbers as a machine has them
pub kind_part_is : mesh_kind_part EdgeEdge ≡ 9_223_372_036_854_775_808
unfolding mesh_kind_part
kind_part_is = refl

pub mesh_number_is : (p : Pair) → mesh_number p ≡ mesh_kind_part p.kind + 4_294_967_296 * p.first + p.second
unfolding mesh_number
mesh_number_is p = refl

pub kind_small : (kind : Kind) → mesh_kind_part kind ≤ 9_223_372_036_854_775_808
unfolding mesh_kind_part
kind_small PointTriangle = omega arith
kind_small EdgeEdge = omega (arith, kind_part_is)

-- it has 64 bits
pub mesh_number_small : (p : Pair) → Within p → mesh_number p < 18_446_744_073_709_551_616
mesh_number_small p h = omega (arith, mesh_number_is p, kind_small p.kind, h.first_few, h.second_few)

own_pair : (kind : Kind) (i j : ℕ) → i < 1_073_741_824 → j < 1_073_741_824 → mesh_pair_of (mesh_number (pair kind i j)) ≡ pair kind i j
unfolding mesh_number mesh_kind_part
own_pair PointTriangle i j h k =
    let n : ℕ = 0 + 4_294_967_296 * i + j in
    let first : n / 4_294_967_296 % 2_147_483_648 ≡ i = omega arith in
    let second : n % 4_294_967_296 ≡ j = omega arith in
    let below : ltb n 9_223_372_036_854_775_808 ≡ true = lt-ltb n 9_223_372_036_854_775_808 (omega arith) in
    λ t. pair (pick (below t) PointTriangle EdgeEdge) (first t) (second t)
own_pair EdgeEdge i j h k =
    let n : ℕ = 9_223_372_036_854_775_808 + 4_294_967_296 * i + j in
    let first : n / 4_294_967_296 % 2_147_483_648 ≡ i = omega arith in
    let second : n % 4_294_967_296 ≡ j = omega arith in
    let above : ltb n 9_223_372_036_854_775_808 ≡ false = le-ltb n 9_223_372_036_854_775_808 (omega arith) in
    λ t. pair (pick (above t) PointTriangle EdgeEdge) (first t) (second t)

-- the pair of a pair's number is that pair
pub mesh_number_back : (p : Pair) → Within p → mesh_pair_of (mesh_number p) ≡ p
mesh_number_back p h = own_pair p.kind p.first p.second h.first_few h.second_few

-- so no two pairs make the same number
pub mesh_number_once : (p q : Pair) → Within p → Within q → mesh_number p ≡ mesh_number q → p ≡ q
mesh_number_once p q h k e = sym (mesh_number_back p h) ∙ ap mesh_pair_of e ∙ mesh_number_back q k

-- ---- numbers in the list's order

abbrev pub below : Pair → Pair → Type 0
below p q = mesh_number p < mesh_number q

along : (kind : Kind) (i j k : ℕ) → j < k → below (pair kind i j) (pair kind i k)
along kind i j k h = omega (arith, mesh_number_is (pair kind i j), mesh_number_is (pair kind i k))

down : (kind : Kind) (i k j l : ℕ) → i < k → j < 1_073_741_824 → below (pair kind i j) (pair kind k l)
down kind i k j l h few = omega (arith, mesh_number_is (pair kind i j), mesh_number_is (pair kind k l))

points_first : (i j k l : ℕ) → i < 1_073_741_824 → j < 1_073_741_824 → below (pair PointTriangle i j) (pair EdgeEdge k l)
unfolding mesh_kind_part
points_first i j k l h few =
    omega (arith, mesh_number_is (pair PointTriangle i j), mesh_number_is (pair EdgeEdge k l), kind_part_is)

module _ (w : RowPairs) (s : Scene) (sized : MeshSized s) where
  points_rise : Rising below (gather (vertex_row w s) 0 (vertex_count s))
  points_rise =
      rising_gather below (vertex_row w s) (vertex_count s)
      (λ i. rising_chosen below (row_test w s PointTriangle i) (pair PointTriangle i) 0 (triangle_count s) (along PointTriangle i))
      (λ i k a b lt p q.
      let (j, _, few, _, e) = (chosen_members (row_test w s PointTriangle i) (pair PointTriangle i) 0 (triangle_count s) a).0 p in
      let (l, _, _, _, e') = (chosen_members (row_test w s PointTriangle k) (pair PointTriangle k) 0 (triangle_count s) b).0 q in
      rw (e, e') (down PointTriangle i k j l lt (omega (arith, sized.few_triangles))))
      0

  edges_rise_lem : Rising below (gather (edge_row w s) 0 (edge_count s))
  edges_rise_lem =
      rising_gather below (edge_row w s) (edge_count s)
      (λ i. rising_chosen below (row_test w s EdgeEdge i) (pair EdgeEdge i) (i + 1) (edge_count s) (along EdgeEdge i))
      (λ i k a b lt p q.
      let (j, _, few, _, e) = (chosen_members (row_test w s EdgeEdge i) (pair EdgeEdge i) (i + 1) (edge_count s) a).0 p in
      let (l, _, _, _, e') = (chosen_members (row_test w s EdgeEdge k) (pair EdgeEdge k) (k + 1) (edge_count s) b).0 q in
      rw (e, e') (down EdgeEdge i k j l lt (omega (arith, sized.few_edges))))
      0

  pub rows_rise : Rising below (rows_in w s 0 (row_count s))
  rows_rise =
      rw (rows_in_turn w s)
      (rising_append below (gather (vertex_row w s) 0 (vertex_count s)) (gather (edge_row w s) 0 (edge_count s)) points_rise edges_rise_lem
      (λ a b p q.
      let (i, _, first, m) = gather_from (vertex_row w s) (vertex_count s) 0 p in
      let (k, _, _, m') = gather_from (edge_row w s) (edge_count s) 0 q in
      let (j, _, few, _, e) = (chosen_members (row_test w s PointTriangle i) (pair PointTriangle i) 0 (triangle_count s) a).0 m in
      let (l, _, _, _, e') = (chosen_members (row_test w s EdgeEdge k) (pair EdgeEdge k) (k + 1) (edge_count s) b).0 m' in
      rw (e, e') (points_first i j k l (omega (arith, sized.few_vertices)) (omega (arith, sized.few_triangles)))))

  -- the numbers of all rows rise
  pub entries_rise : Rising ◌<◌ (mesh_entries (rows_in w s 0 (row_count s)))
  entries_rise = map_rising mesh_number below ◌<◌ (rows_in w s 0 (row_count s)) (λ a b p q h. h) rows_rise

-- and so do those of the list
pub list_rises : (s : Scene) → MeshSized s → Rising ◌<◌ (mesh_entries (pairs s))
list_rises s sized = rw (all_rows s) at (entries_rise Listed s sized)

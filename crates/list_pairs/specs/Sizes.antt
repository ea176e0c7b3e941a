-- How long the list of an accepted scene can be, and that its entries are numbers of 21 bits.
use Rattle.std.specs.Prelude.{ℕ, suc, ◌+◌, ◌*◌, ◌-◌, ◌/◌, ◌≤◌, ◌<◌, false, ◌≡◌, refl, length, get_or}
use Rattle.std.proofs.Common.{mul-le-mul, mul-le-mul_right, arith, length-append}
use Rattle.sequences.specs.Chosen.{chosen_short}
use Rattle.sequences.specs.Gather.{gather, gather_none, gather_first, gather_short}
use Rattle.sequences.specs.Mapped.{map_at}
use Rattle.sequences.specs.Range.{towards}
use Rattle.sequences.specs.Rising.{at_place}
use Rattle.meaning.specs.Limits.{vertex_limit, edge_limit, triangle_limit}
use Rattle.meaning.specs.Scene.{Scene, Accepted, vertex_count, edge_count, triangle_count}
use Rattle.meaning.specs.Boxes.{listed}
use Rattle.meaning.specs.List.{Pair, pair, pairs, place_step, no_number, number, entries}
use Rattle.meaning.specs.Refusals.{not_there}
use Rattle.meaning.specs.declared.Kind.{Kind}
use Rattle.meaning.specs.declared.Kind.TheVariants.{PointTriangle, EdgeEdge}
use Rattle.list_entries.specs.Entries.{Narrow, AllNarrow, number_small}
use Rattle.scene_checks.specs.Facts.{accepted_sized}
use Rattle.list_candidates.specs.Rows.{first_count, second_count, second_from, row_of, rows_of, row_short, pairs_length}
use Rattle.list_pairs.specs.InOrder.{are_there, list_is}

-- each vertex with each triangle, and each two edges: 785,920
abbrev pub pair_limit : ℕ
pair_limit = vertex_limit * triangle_limit + edge_limit * (edge_limit - 1) / 2

pub pair_limit_lem : pair_limit ≡ 785_920
pair_limit_lem = refl

point_pairs : (s : Scene) → length (rows_of s PointTriangle) ≤ vertex_count s * triangle_count s
unfolding first_count second_count
point_pairs s =
    let all : vertex_count s - 0 ≡ vertex_count s = omega arith in
    rw all at (gather_short (row_of s PointTriangle) (triangle_count s) 0 (vertex_count s) (λ i h k. row_short s PointTriangle i))

-- k edges make k (k - 1) / 2 pairs
edge_pairs : (s : Scene) (i k : ℕ) → k ≡ edge_count s - i → 2 * length (gather (row_of s EdgeEdge) i (edge_count s)) + k ≤ k * k
unfolding second_count second_from
edge_pairs s =
    towards (edge_count s) (λ i. (k : ℕ) → k ≡ edge_count s - i → 2 * length (gather (row_of s EdgeEdge) i (edge_count s)) + k ≤ k * k)
    (λ i past k e. rw (gather_none (row_of s EdgeEdge) i (edge_count s) past) (omega arith))
    (λ i lt next k e.
    let m = edge_count s - (i + 1) in
    let one : k ≡ suc m = omega arith in
    let row = chosen_short (listed s EdgeEdge i) (pair EdgeEdge i) (i + 1) (edge_count s) in
    rw (gather_first (row_of s EdgeEdge) i (edge_count s) lt, length-append, one) (omega (arith, next m refl)))

pub few_pairs : (s : Scene) → Accepted s → length (pairs s) ≤ pair_limit
unfolding first_count
few_pairs s a =
    let sized = accepted_sized a in
    omega (
      arith,
      pairs_length s,
      point_pairs s,
      mul-le-mul sized.few_vertices sized.few_triangles,
      edge_pairs s 0 (edge_count s) (omega arith),
      mul-le-mul_right (edge_count s) sized.few_edges,
    )

-- ---- the numbers of the entries

-- a pair of an accepted scene has places below the step of a place
pub there_narrow : (s : Scene) → Accepted s → (p : Pair) → not_there s p.kind p.first p.second ≡ false → Narrow p
unfolding not_there
there_narrow s a p h = let (first, second) = small p.kind p.first p.second h in record { first_narrow = first; second_narrow = second }
  where
    small : (kind : Kind) (i j : ℕ) → not_there s kind i j ≡ false → (i < place_step) × (j < place_step)
    small PointTriangle i j e = omega (arith, accepted_sized a, are_there (vertex_count s) (triangle_count s) i j e)
    small EdgeEdge i j e = omega (arith, accepted_sized a, are_there (edge_count s) (edge_count s) i j e)

pub pairs_narrow : (s : Scene) → Accepted s → AllNarrow (pairs s)
pairs_narrow s a p m = there_narrow s a p (((list_is s).stands p).0 m).there

-- each is a pair's number
pub entries_fit : (s : Scene) → Accepted s → (k : ℕ) → k < length (pairs s) → get_or (entries (pairs s)) k 0 < no_number
entries_fit s a k h =
    let p = get_or (pairs s) k (pair PointTriangle 0 0) in
    rw (map_at number (pairs s) k (pair PointTriangle 0 0) 0 h) (number_small p (pairs_narrow s a p (at_place (pairs s) k (pair PointTriangle 0 0) h)))

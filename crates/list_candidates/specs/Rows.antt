-- The list row by row: the pairs of a kind with one first place, from the first second place that goes with it on.
use Rattle.std.specs.Prelude.{ℕ, ◌+◌, ◌*◌, ◌-◌, ◌≤◌, ◌<◌, List, ◌++◌, ◌≡◌, refl, length}
use Rattle.std.proofs.Common.{ap, ◌∙◌, arith, mul-le-mul, le_trans, length-append}
use Rattle.sequences.specs.Chosen.{one, chosen, chosen_short}
use Rattle.sequences.specs.Gather.{gather, gather_short}
use Rattle.meaning.specs.Scene.{Scene, Accepted, vertex_count, edge_count, triangle_count}
use Rattle.meaning.specs.Boxes.{listed}
use Rattle.meaning.specs.List.{Pair, pair, pairs}
use Rattle.meaning.specs.declared.Kind.{Kind}
use Rattle.meaning.specs.declared.Kind.TheVariants.{PointTriangle, EdgeEdge}
use Rattle.scene_checks.specs.Facts.{accepted_sized}

-- of a kind: how many first places there are, how many second places, and the first of these that goes with a first place
unfoldable pub first_count : Scene → Kind → ℕ
first_count s PointTriangle = vertex_count s
first_count s EdgeEdge = edge_count s

unfoldable pub second_count : Scene → Kind → ℕ
second_count s PointTriangle = triangle_count s
second_count s EdgeEdge = edge_count s

unfoldable pub second_from : Kind → ℕ → ℕ
second_from PointTriangle i = 0
second_from EdgeEdge i = i + 1

-- a pair if it is listed, a row of these, and the rows
abbrev pub candidate : Scene → Kind → ℕ → ℕ → List Pair
candidate s kind i j = one (listed s kind i j) (pair kind i j)

abbrev pub row_of : Scene → Kind → ℕ → List Pair
row_of s kind i = gather (candidate s kind i) (second_from kind i) (second_count s kind)

abbrev pub rows_of : Scene → Kind → List Pair
rows_of s kind = gather (row_of s kind) 0 (first_count s kind)

pub pairs_rows : (s : Scene) → pairs s ≡ rows_of s PointTriangle ++ rows_of s EdgeEdge
unfolding pairs first_count second_count second_from
pairs_rows s = refl

-- ---- how many

pub pairs_length : (s : Scene) → length (pairs s) ≡ length (rows_of s PointTriangle) + length (rows_of s EdgeEdge)
pairs_length s = ap length (pairs_rows s) ∙ length-append (rows_of s PointTriangle) (rows_of s EdgeEdge)

pub few_seconds : (s : Scene) (kind : Kind) → Accepted s → second_count s kind ≤ 1024
unfolding second_count
few_seconds s PointTriangle a = omega (arith, accepted_sized a)
few_seconds s EdgeEdge a = omega (arith, accepted_sized a)

pub few_firsts : (s : Scene) (kind : Kind) → Accepted s → first_count s kind ≤ 1024
unfolding first_count
few_firsts s PointTriangle a = omega (arith, accepted_sized a)
few_firsts s EdgeEdge a = omega (arith, accepted_sized a)

pub row_short : (s : Scene) (kind : Kind) (i : ℕ) → length (row_of s kind i) ≤ second_count s kind
row_short s kind i = omega (arith, chosen_short (listed s kind i) (pair kind i) (second_from kind i) (second_count s kind))

pub rows_short : (s : Scene) (kind : Kind) → Accepted s → length (rows_of s kind) ≤ 1024 * 1024
rows_short s kind a =
    let most = gather_short (row_of s kind) 1024 0 (first_count s kind) (λ i h k. omega (arith, row_short s kind i, few_seconds s kind a)) in
    omega (arith, few_firsts s kind a)

-- a row begins no later than it ends
pub row_begins : (s : Scene) (kind : Kind) (i : ℕ) → i < first_count s kind → second_from kind i ≤ second_count s kind
unfolding first_count second_count second_from
row_begins s PointTriangle i h = omega arith
row_begins s EdgeEdge i h = omega arith

-- a stretch of a row has no more pairs than places
pub stretch_short : (s : Scene) (kind : Kind) (i a b : ℕ) → length (gather (candidate s kind i) a b) ≤ b
stretch_short s kind i a b = omega (arith, chosen_short (listed s kind i) (pair kind i) a b)

-- nor have the first rows more than 1,024 each
pub rows_up_to : (s : Scene) (kind : Kind) → Accepted s → (i : ℕ) → length (gather (row_of s kind) 0 i) ≤ i * 1024
rows_up_to s kind a i =
    let all : i - 0 ≡ i = omega arith in
    rw all at (gather_short (row_of s kind) 1024 0 i (λ j h k. omega (arith, row_short s kind j, few_seconds s kind a)))

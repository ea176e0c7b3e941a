-- A run that a first part misses has no listed pair in it.
use Rattle.std.specs.Prelude.{ℕ, ◌+◌, ◌*◌, ◌-◌, ◌/◌, ◌≤◌, ◌<◌, Bool, true, false, not, List, [], ◌≡◌, refl, ℤ, length}
use Rattle.std.proofs.Math.Bool.{and-false}
use Rattle.std.proofs.Common.{sym, ap, ◌∙◌, zero-add, arith}
use Rattle.sequences.specs.Gather.{gather, gather_none, gather_first}
use Rattle.sequences.specs.Range.{towards}
use Rattle.meaning.specs.Scene.{Scene, Accepted, vertex_count, edge_count, triangle_count}
use Rattle.meaning.specs.Boxes.{listed, boxes_meet, meet_on}
use Rattle.meaning.specs.Refusals.{shares}
use Rattle.meaning.specs.Runs.{runs_of, run_from, run_to}
use Rattle.meaning.specs.List.{Pair}
use Rattle.meaning.specs.declared.Kind.{Kind}
use Rattle.meaning.specs.declared.Kind.TheVariants.{PointTriangle, EdgeEdge}
use Rattle.meaning.specs.StoredBoxes.{Box, box_at, vertex_box, edge_box, triangle_box, BoxesStand, Boxed, box_numbers}
use Rattle.list_boxes.specs.Kept.{meet_boxes}
use Rattle.list_runs.specs.Joined.{joint_boxes, run_misses}
use Rattle.list_candidates.specs.Rows.{first_count, second_count, candidate}

abbrev pub walk_numbers : ℕ
walk_numbers = box_numbers + 576

-- the boxes of first and of second parts, and of the runs of second parts
unfoldable pub first_box : Scene → Kind → ℕ → Box
first_box s PointTriangle i = vertex_box s i
first_box s EdgeEdge i = edge_box s i

unfoldable pub second_box : Scene → Kind → ℕ → Box
second_box s PointTriangle j = triangle_box s j
second_box s EdgeEdge j = edge_box s j

abbrev pub run_box : Scene → Kind → ℕ → Box
run_box s kind r = joint_boxes (second_box s kind) (run_from r) (run_to (second_count s kind) r - run_from r - 1)

-- where they stand in the list
abbrev pub all_parts : Scene → ℕ
all_parts s = vertex_count s + edge_count s + triangle_count s

unfoldable pub first_place : Scene → Kind → ℕ → ℕ
first_place s PointTriangle i = i
first_place s EdgeEdge i = vertex_count s + i

unfoldable pub run_place : Scene → Kind → ℕ → ℕ
run_place s PointTriangle r = all_parts s + runs_of (edge_count s) + r
run_place s EdgeEdge r = all_parts s + r

-- an accepted scene, with its boxes and the joint boxes of its runs
pub record Prepared (s : Scene) (l : List ℤ) : Type 0 where
  pub accepted : Accepted s
  pub boxed : Boxed s l
  pub edge_runs : BoxesStand l (all_parts s) (runs_of (edge_count s)) (run_box s EdgeEdge)
  pub triangle_runs : BoxesStand l (all_parts s + runs_of (edge_count s)) (runs_of (triangle_count s)) (run_box s PointTriangle)
  pub room : 6 * (all_parts s + runs_of (edge_count s) + runs_of (triangle_count s)) ≤ length l

-- ---- the boxes are found there

first_found : {s : Scene} {l : List ℤ} → Prepared s l → (kind : Kind) (i : ℕ) → i < first_count s kind → box_at l (first_place s kind i) ≡ first_box s kind i
unfolding first_box first_place first_count
first_found so PointTriangle i h = rw zero-add at (so.boxed.vertices.at i h)
first_found so EdgeEdge i h = so.boxed.edges.at i h

run_found : {s : Scene} {l : List ℤ} → Prepared s l → (kind : Kind) (r : ℕ) → r < runs_of (second_count s kind) → box_at l (run_place s kind r) ≡ run_box s kind r
unfolding run_place second_count
run_found so PointTriangle r h = so.triangle_runs.at r h
run_found so EdgeEdge r h = so.edge_runs.at r h

pub meets_run : {s : Scene} {l : List ℤ} {meets : Bool} (so : Prepared s l) (kind : Kind) (i r : ℕ) → i < first_count s kind → r < runs_of (second_count s kind)
    → meets ≡ meet_boxes (box_at l (first_place s kind i)) (box_at l (run_place s kind r)) → meets ≡ meet_boxes (first_box s kind i) (run_box s kind r)
meets_run so kind i r h k e =
    let one = first_found so kind i h in
    let two = run_found so kind r k in
    e ∙ λ t. meet_boxes (one t) (two t)

-- and they are in the list
pub places_inside : {s : Scene} {l : List ℤ} → Prepared s l → (kind : Kind) (i r : ℕ) → i < first_count s kind → r < runs_of (second_count s kind)
    → (6 * first_place s kind i + 5 < length l) × (6 * run_place s kind r + 5 < length l)
unfolding first_place run_place first_count second_count
places_inside so PointTriangle i r h k = (omega (arith, so.room), omega (arith, so.room))
places_inside so EdgeEdge i r h k = (omega (arith, so.room), omega (arith, so.room))

-- ---- a run that is missed

boxes_meet_is : (s : Scene) (kind : Kind) (i j : ℕ) → boxes_meet s kind i j ≡ meet_boxes (first_box s kind i) (second_box s kind j)
unfolding meet_on first_box second_box
boxes_meet_is s PointTriangle i j = refl
boxes_meet_is s EdgeEdge i j = refl

gather_empty : {A : Type 0} (f : ℕ → List A) (n : ℕ) → (i : ℕ) → ((j : ℕ) → i ≤ j → j < n → f j ≡ []) → gather f i n ≡ []
gather_empty f n =
    towards n (λ i. ((j : ℕ) → i ≤ j → j < n → f j ≡ []) → gather f i n ≡ [])
    (λ i past e. gather_none f i n past)
    (λ i lt next e. gather_first f i n lt ∙ rw (e i (omega arith) lt) (next (λ j a b. e j (omega arith) b)))

-- 'skip a run whose box misses the point's': it has no listed pair
pub run_skipped : (s : Scene) (kind : Kind) (i j r : ℕ) → run_from r ≤ j → r < runs_of (second_count s kind)
    → meet_boxes (first_box s kind i) (run_box s kind r) ≡ false → gather (candidate s kind i) j (run_to (second_count s kind) r) ≡ []
run_skipped s kind i j r from below misses =
    gather_empty (candidate s kind i) (run_to (second_count s kind) r) j
    (λ k h l.
    let apart = run_misses (first_box s kind i) (second_box s kind) (run_from r) (run_to (second_count s kind) r - run_from r - 1) misses k (omega arith) (omega arith) in
    rw (boxes_meet_is s kind i k, apart, and-false (not (shares s kind i k))) refl)

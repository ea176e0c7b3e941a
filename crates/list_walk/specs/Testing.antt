-- How many boxes the walk tests: those of the pt part are counted, run by run and row by row.
use Rattle.std.specs.Prelude.{ℕ, ◌+◌, ◌*◌, ◌-◌, ◌/◌, ◌≤◌, ◌<◌, min, Bool, true, false, not, ◌⊎◌, ◌≡◌, refl}
use Rattle.std.proofs.Math.Bool.{and-false}
use Rattle.std.proofs.Common.{inl, inr, ⊎_elim, sym, ap, ◌∙◌, arith}
use Rattle.sequences.specs.Gather.{sum, sum_none, sum_first}
use Rattle.sequences.specs.Pick.{pick}
use Rattle.sequences.specs.Range.{towards, le_or_lt}
use Rattle.meaning.specs.Scene.{Scene, Accepted, vertex_count, triangle_count}
use Rattle.meaning.specs.Boxes.{triangle_span, listed, meet_on}
use Rattle.meaning.specs.Refusals.{shares}
use Rattle.meaning.specs.Runs.{runs_of, run_from, run_to, run_meets, tests_in_run, tests_of_vertex, box_tests}
use Rattle.meaning.specs.declared.Kind.{Kind}
use Rattle.meaning.specs.declared.Kind.TheVariants.{PointTriangle, EdgeEdge}
use Rattle.meaning.specs.StoredBoxes.{Box, vertex_box, triangle_box}
use Rattle.list_boxes.specs.Kept.{meet_boxes}
use Rattle.list_runs.specs.Joined.{joint_spans, run_misses}
use Rattle.list_runs.specs.Tests.{sum_short, at_most_all}
use Rattle.list_candidates.specs.Rows.{first_count, second_count, second_from, few_seconds}
use Rattle.list_walk.specs.Skipping.{first_box, second_box, run_box}

-- of a kind: what is counted of so many tests
unfoldable pub point_tests : Kind → ℕ → ℕ
point_tests PointTriangle n = n
point_tests EdgeEdge n = 0

-- the tests of a first part in a run, in the runs in front of a second place, in a row, and in the rows
unfoldable pub tests_at : Scene → Kind → ℕ → ℕ → ℕ
tests_at s PointTriangle i r = tests_in_run s i r
tests_at s EdgeEdge i r = 0

abbrev pub tests_up_to : Scene → Kind → ℕ → ℕ → ℕ
tests_up_to s kind i j = sum (tests_at s kind i) 0 (runs_of j)

abbrev pub tests_of_row : Scene → Kind → ℕ → ℕ
tests_of_row s kind i = tests_up_to s kind i (second_count s kind)

abbrev pub tests_of_rows : Scene → Kind → ℕ
tests_of_rows s kind = sum (tests_of_row s kind) 0 (first_count s kind)

pub point_rows : (s : Scene) → tests_of_rows s PointTriangle ≡ box_tests s
unfolding first_count second_count tests_at box_tests
point_rows s = refl

-- ---- where a row goes on

-- a row of points goes on at the front of a run, until no triangle is left
unfoldable pub AtRun : Kind → ℕ → ℕ → Type 0
AtRun PointTriangle n j = (j ≡ 16 * (j / 16)) ⊎ (n ≤ j)
AtRun EdgeEdge n j = Unit {0}

pub at_begun : (kind : Kind) (n i : ℕ) → AtRun kind n (second_from kind i)
unfolding AtRun second_from
at_begun PointTriangle n i = inl (omega arith)
at_begun EdgeEdge n i = tt

pub at_next : (kind : Kind) (n r : ℕ) → AtRun kind n (run_to n r)
unfolding AtRun
at_next PointTriangle n r = ⊎_elim (λ h. inl (omega arith)) (λ h. inr (omega arith)) (le_or_lt (16 * r + 16) n)
at_next EdgeEdge n r = tt

-- ---- the tests of a run

-- the one test of two boxes is that of a vertex and a run
run_meets_is : (s : Scene) (v r : ℕ) → meet_boxes (vertex_box s v) (run_box s PointTriangle r) ≡ run_meets s v r
unfolding second_box second_count
run_meets_is s v r = ap (meet_boxes (vertex_box s v)) (joint_spans (triangle_span s) (run_from r) (run_to (triangle_count s) r - run_from r - 1))

-- 'skip a run whose box misses the point's': no pair of it is listed
pub missed_run : (s : Scene) (v r j : ℕ) → run_from r ≤ j → j < run_to (triangle_count s) r → run_meets s v r ≡ false → listed s PointTriangle v j ≡ false
unfolding second_box second_count meet_on
missed_run s v r j from to misses =
    let apart = run_misses (vertex_box s v) (triangle_box s) (run_from r) (run_to (triangle_count s) r - run_from r - 1) (run_meets_is s v r ∙ misses) j from (omega arith) in
    rw (apart, and-false (not (shares s PointTriangle v j))) refl

in_run : (s : Scene) (v r n : ℕ) {meets : Bool} → meets ≡ meet_boxes (vertex_box s v) (run_box s PointTriangle r)
    → n ≡ 1 + pick meets (run_to (triangle_count s) r - run_from r) 0 → n ≡ tests_in_run s v r
in_run s v r n tested e = e ∙ ap (λ (t : Bool). 1 + pick t (run_to (triangle_count s) r - run_from r) 0) (tested ∙ run_meets_is s v r)

-- a run that is met: its box, and that of each of its parts, sharing a vertex or not
pub tests_met : (s : Scene) (kind : Kind) (i j : ℕ) {meets : Bool} {n boxes : ℕ} → j < second_count s kind → AtRun kind (second_count s kind) j
    → meets ≡ meet_boxes (first_box s kind i) (run_box s kind (j / 16)) → meets ≡ true
    → n ≡ point_tests kind boxes → boxes ≡ 1 + (run_to (second_count s kind) (j / 16) - j) → n ≡ tests_at s kind i (j / 16)
unfolding second_count AtRun first_box point_tests tests_at
tests_met s PointTriangle i j {n = n} h (inl front) tested met e f =
    let all : run_to (triangle_count s) (j / 16) - j ≡ run_to (triangle_count s) (j / 16) - run_from (j / 16) =
    ap (λ (k : ℕ). run_to (triangle_count s) (j / 16) - k) front in
    in_run s i (j / 16) n tested (rw met (e ∙ f ∙ ap (λ (k : ℕ). 1 + k) all))
tests_met s PointTriangle i j h (inr past) tested met e f = absurd (omega arith)
tests_met s EdgeEdge i j h at tested met e f = e

-- a run that is missed: its box alone
pub tests_missed : (s : Scene) (kind : Kind) (i r : ℕ) {meets : Bool} {n : ℕ} → meets ≡ meet_boxes (first_box s kind i) (run_box s kind r)
    → meets ≡ false → n ≡ point_tests kind 1 → n ≡ tests_at s kind i r
unfolding first_box point_tests tests_at
tests_missed s PointTriangle i r {n = n} tested missed e = in_run s i r n tested (rw missed e)
tests_missed s EdgeEdge i r tested missed e = e

-- ---- the tests of a row

sum_last : (f : ℕ → ℕ) (n i : ℕ) → i ≤ n → sum f i (n + 1) ≡ sum f i n + f n
sum_last f n =
    towards n (λ i. i ≤ n → sum f i (n + 1) ≡ sum f i n + f n)
    (λ i past h.
    let here : i ≡ n = omega arith in
    rw here (omega (arith, sum_first f n (n + 1) (omega arith), sum_none f (n + 1) (n + 1) (omega arith), sum_none f n n (omega arith))))
    (λ i lt next h. omega (arith, sum_first f i (n + 1) (omega arith), sum_first f i n lt, next (omega arith)))

not_counted : (s : Scene) (i n : ℕ) → sum (tests_at s EdgeEdge i) 0 n ≡ 0
unfolding tests_at
not_counted s i n = omega (arith, sum_short (tests_at s EdgeEdge i) 0 n (λ r. omega arith) 0)

none_more : (s : Scene) (i n r : ℕ) → sum (tests_at s EdgeEdge i) 0 n + tests_at s EdgeEdge i r ≡ 0
unfolding tests_at
none_more s i n r = omega (arith, not_counted s i n)

pub row_tests_begun : (s : Scene) (kind : Kind) (i : ℕ) → tests_up_to s kind i (second_from kind i) ≡ 0
unfolding second_from
row_tests_begun s PointTriangle i = sum_none (tests_at s PointTriangle i) 0 (runs_of 0) (omega arith)
row_tests_begun s EdgeEdge i = not_counted s i (runs_of (i + 1))

pub row_tests_go : (s : Scene) (kind : Kind) (i n j : ℕ) → j < n → AtRun kind n j
    → tests_up_to s kind i (run_to n (j / 16)) ≡ tests_up_to s kind i j + tests_at s kind i (j / 16)
unfolding AtRun
row_tests_go s PointTriangle i n j h (inl front) =
    let here : runs_of j ≡ j / 16 = omega arith in
    let next : runs_of (run_to n (j / 16)) ≡ j / 16 + 1 = omega arith in
    rw (here, next) (sum_last (tests_at s PointTriangle i) (j / 16) 0 (omega arith))
row_tests_go s PointTriangle i n j h (inr past) = absurd (omega arith)
row_tests_go s EdgeEdge i n j h at =
    not_counted s i (runs_of (run_to n (j / 16))) ∙ sym (none_more s i (runs_of j) (j / 16))

pub rows_tests_go : (s : Scene) (kind : Kind) (i : ℕ) → sum (tests_of_row s kind) 0 (i + 1) ≡ sum (tests_of_row s kind) 0 i + tests_of_row s kind i
rows_tests_go s kind i = sum_last (tests_of_row s kind) i 0 (omega arith)

-- ---- they are few

full_run : (n r : ℕ) → run_to n r - run_from r ≤ 16
full_run n r = omega arith

pub tests_few : (s : Scene) (kind : Kind) (i r : ℕ) → tests_at s kind i r ≤ 17
unfolding tests_at
tests_few s PointTriangle i r =
    omega (arith, at_most_all (run_meets s i r) (run_to (triangle_count s) r - run_from r), full_run (triangle_count s) r)
tests_few s EdgeEdge i r = omega arith

pub row_tests_few : (s : Scene) (kind : Kind) (i j : ℕ) → tests_up_to s kind i j ≤ (runs_of j - 0) * 17
row_tests_few s kind i j = sum_short (tests_at s kind i) 17 (runs_of j) (tests_few s kind i) 0

pub rows_tests_few : (s : Scene) (kind : Kind) → Accepted s → (i : ℕ) → sum (tests_of_row s kind) 0 i ≤ (i - 0) * 1088
rows_tests_few s kind a i =
    sum_short (tests_of_row s kind) 1088 i (λ v. omega (arith, row_tests_few s kind v (second_count s kind), few_seconds s kind a)) 0

-- How many boxes the pt part tests: never more than vertices times (triangles + runs).
use Rattle.std.specs.Prelude.{ℕ, zero, suc, ◌+◌, ◌*◌, ◌-◌, ◌/◌, ◌≤◌, ◌<◌, min, Bool, true, false, ◌≡◌}
use Rattle.std.proofs.Common.{arith}
use Rattle.sequences.specs.Gather.{sum, sum_none, sum_first}
use Rattle.sequences.specs.Pick.{pick}
use Rattle.sequences.specs.Range.{towards}
use Rattle.meaning.specs.Scene.{Scene, vertex_count, triangle_count}
use Rattle.meaning.specs.Runs.{runs_of, run_from, run_to, run_meets, tests_in_run, tests_of_vertex, box_tests}

-- where each of the numbers is at most b
pub sum_short : (f : ℕ → ℕ) (b n : ℕ) → ((j : ℕ) → f j ≤ b) → (i : ℕ) → sum f i n ≤ (n - i) * b
sum_short f b n h =
    towards n (λ i. sum f i n ≤ (n - i) * b)
    (λ i past. rw (sum_none f i n past) (omega arith))
    (λ i lt next.
    let more : n - i ≡ suc (n - (i + 1)) = omega arith in
    rw (sum_first f i n lt, more) (omega (arith, next, h i)))

pub at_most_all : (t : Bool) (n : ℕ) → pick t n 0 ≤ n
at_most_all true n = omega arith
at_most_all false n = omega arith

-- the runs from r on have what is left of n
left_of : (n r : ℕ) → 16 * r < n → min (16 * r + 16) n - 16 * r + (n - 16 * (r + 1)) ≤ n - 16 * r
left_of n r h = omega arith

inside : (n r : ℕ) → r < (n + 15) / 16 → 16 * r < n
inside n r h = omega arith

of_vertex : (s : Scene) (v r : ℕ)
    → sum (tests_in_run s v) r (runs_of (triangle_count s)) ≤ (runs_of (triangle_count s) - r) + (triangle_count s - 16 * r)
of_vertex s v =
    let n = triangle_count s in
    let runs = runs_of n in
    towards runs (λ r. sum (tests_in_run s v) r runs ≤ (runs - r) + (n - 16 * r))
    (λ r past. rw (sum_none (tests_in_run s v) r runs past) (omega arith))
    (λ r lt next.
    let more : runs - r ≡ suc (runs - (r + 1)) = omega arith in
    rw (sum_first (tests_in_run s v) r runs lt, more)
    (omega (arith, next, at_most_all (run_meets s v r) (run_to n r - run_from r), left_of n r (inside n r lt))))

-- 'it never exceeds vertices times (triangles + runs)'
pub few_tests : (s : Scene) → box_tests s ≤ vertex_count s * (triangle_count s + runs_of (triangle_count s))
unfolding box_tests
few_tests s =
    let all : vertex_count s - 0 ≡ vertex_count s = omega arith in
    rw all at
    (sum_short (tests_of_vertex s) (triangle_count s + runs_of (triangle_count s)) (vertex_count s) (λ v. omega (arith, of_vertex s v 0)) 0)

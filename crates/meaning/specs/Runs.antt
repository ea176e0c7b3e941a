-- Document 02, §12: triangles in runs of 16 by place, the joint box of a run, how many boxes the pt part tests in one pass, and how a call
-- tells that.
use Rattle.std.specs.Prelude.{ℕ, zero, suc, ◌+◌, ◌*◌, ◌-◌, ◌/◌, min, Bool, ◌&&◌, List, [], ◌∷◌, ◌≡◌, Result}
use Rattle.sequences.specs.Gather.{sum}
use Rattle.sequences.specs.Pick.{pick}
use Rattle.meaning.specs.Scene.{Scene, vertex_count, triangle_count}
use Rattle.meaning.specs.Boxes.{Span, Axis, x_axis, y_axis, z_axis, joint, meet, vertex_span, triangle_span}
use Rattle.meaning.specs.Refusals.{Outcome, given, refused, outcome_of}
use Rattle.meaning.specs.declared.Refused.{Refused}

-- 'runs is triangles / 16 rounded up'
abbrev pub runs_of : ℕ → ℕ
runs_of n = (n + 15) / 16

-- run r has the places from 16 r on, 16 of them, and the last run what is left of n
abbrev pub run_from : ℕ → ℕ
run_from r = 16 * r

abbrev pub run_to : ℕ → ℕ → ℕ
run_to n r = min (16 * r + 16) n

-- the joint span of the part in place i and of the k parts behind it
unfoldable pub joint_span : (ℕ → Span) → ℕ → ℕ → Span
joint_span f i zero = f i
joint_span f i (suc k) = joint (joint_span f i k) (f (i + 1 + k))

-- a run's joint box, on an axis
abbrev pub run_span : Scene → Axis → ℕ → Span
run_span s a r = joint_span (triangle_span s a) (run_from r) (run_to (triangle_count s) r - run_from r - 1)

abbrev pub run_meets_on : Scene → ℕ → ℕ → Axis → Bool
run_meets_on s v r a = meet (vertex_span s a v) (run_span s a r)

abbrev pub run_meets : Scene → ℕ → ℕ → Bool
run_meets s v r = run_meets_on s v r x_axis && run_meets_on s v r y_axis && run_meets_on s v r z_axis

-- 'each vertex tests every run's box once, and each triangle's box once in a run that meets, sharing a vertex or not'
abbrev pub tests_in_run : Scene → ℕ → ℕ → ℕ
tests_in_run s v r = 1 + pick (run_meets s v r) (run_to (triangle_count s) r - run_from r) 0

abbrev pub tests_of_vertex : Scene → ℕ → ℕ
tests_of_vertex s v = sum (tests_in_run s v) 0 (runs_of (triangle_count s))

unfoldable pub box_tests : Scene → ℕ
box_tests s = sum (tests_of_vertex s) 0 (vertex_count s)

-- 'Return the number of box tests for the pt part': beside the count, in a lent number. A refusal leaves what stood there
unfoldable pub tests_left : Scene → Outcome ℕ → List ℕ → List ℕ
tests_left s (given n) t = box_tests s ∷ []
tests_left s (refused n c) t = t

-- an answer of the list that is right, with its box tests in a lent number that held t and holds t'
pub record Tested (s : Scene) (Right : Result ℕ Refused → Type 0) (t t' : List ℕ) (r : Result ℕ Refused) : Type 0 where
  pub list : Right r
  pub tests : t' ≡ tests_left s (outcome_of r) t

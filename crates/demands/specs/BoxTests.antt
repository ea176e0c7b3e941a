-- Document 02, §12: a run that is skipped holds no listed pair, the box tests are never more than vertices times (triangles + runs), and a
-- call tells them on success alone.
use Rattle.std.specs.Prelude.{ℕ, ◌+◌, ◌*◌, ◌/◌, ◌≤◌, ◌<◌, false, List, [], ◌∷◌, ◌≡◌, refl, Result}
use Rattle.std.proofs.Math.Path.{ap}
use Rattle.std.proofs.Common.{◌∙◌, arith}
use Rattle.sequences.specs.Range.{times, over}
use Rattle.sequences.specs.Gather.{sum}
use Rattle.meaning.specs.Scene.{Scene, vertex_count, triangle_count}
use Rattle.meaning.specs.Refusals.{given, refused, outcome_of}
use Rattle.meaning.specs.Boxes.{listed}
use Rattle.meaning.specs.Runs.{runs_of, run_from, run_to, joint_span, run_meets, box_tests, tests_left, Tested}
use Rattle.meaning.specs.Text.{coordinates_in, ends_in, corners_in, seam_in}
use Rattle.meaning.specs.Lines.{after_all}
use Rattle.meaning.specs.declared.Kind.TheVariants.{PointTriangle}
use Rattle.list_runs.specs.Tests.{few_tests}
use Rattle.list_walk.specs.Testing.{missed_run}
use Rattle.demands.specs.Printed.{records, printed_scene}
use Rattle.meaning.specs.declared.Refused.{Refused}

pub record FewerTests (s : Scene) : Type 0 where
  -- 'runs is triangles / 16 rounded up', and each triangle stands in the run of its place
  pub enough : triangle_count s ≤ 16 * runs_of (triangle_count s)
  pub no_more : 16 * runs_of (triangle_count s) < triangle_count s + 16
  pub each : (j : ℕ) → j < triangle_count s → (j / 16 < runs_of (triangle_count s)) × (run_from (j / 16) ≤ j) × (j < run_to (triangle_count s) (j / 16))
  -- 'skip a run whose box misses the point's': the list loses nothing by it
  pub skipped : (v r j : ℕ) → run_from r ≤ j → j < run_to (triangle_count s) r → run_meets s v r ≡ false → listed s PointTriangle v j ≡ false
  -- 'never exceeds vertices times (triangles + runs)'
  pub few : box_tests s ≤ vertex_count s * (triangle_count s + runs_of (triangle_count s))

pub fewer_tests : (s : Scene) → FewerTests s
fewer_tests s = record {
  enough = omega arith;
  no_more = omega arith;
  each = λ j h. (omega arith, omega arith, omega arith);
  skipped = missed_run s;
  few = few_tests s;
}

-- ---- 'return the number of box tests for the pt part': with the count, and a refusal leaves the lent number alone

module _ {s : Scene} {Right : Result ℕ Refused → Type 0} {t t' : List ℕ} {r : Result ℕ Refused} (p : Tested s Right t t' r) where
  pub tests_told : (n : ℕ) → outcome_of r ≡ given n → t' ≡ box_tests s ∷ []
  unfolding tests_left
  tests_told n e = p.tests ∙ ap (λ o. tests_left s o t) e

  pub tests_unchanged : (n c : ℕ) → outcome_of r ≡ refused n c → t' ≡ t
  unfolding tests_left
  tests_unchanged n c e = p.tests ∙ ap (λ o. tests_left s o t) e

-- ---- the printed scene: five vertices and one run of one triangle. Vertex 4 misses it; the three corners meet it, and their triangle's box is
-- tested though it shares a vertex

pub printed_tests : box_tests printed_scene ≡ 9
unfolding records printed_scene after_all coordinates_in ends_in corners_in seam_in box_tests sum over times joint_span
printed_tests = refl

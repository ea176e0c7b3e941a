-- `series_laws::walk_row`: the runs passed are walked, and their tests are counted.
use borrow.Author.Rules.{rules}
use native.Mathlib.Omega.{arith}
use Prim.Native.Nat.{◌-◌, ◌/◌, ◌≤◌}
use mathlib.Core.Path.{◌≡◌, sym}
use Rattle.scene_seams.specs.Alone.{tabled}
use Rattle.meaning.specs.Runs.{run_to}
use Rattle.list_entries.specs.UpTo.{Walking, walking_starts}
use Rattle.list_entries.proofs.UpTo.{walking_more, walked_length}
use Rattle.list_candidates.specs.Rows.{second_count, second_from, candidate, row_begins, stretch_short, few_firsts, few_seconds}
use Rattle.list_walk.specs.Testing.{tests_up_to, AtRun, at_begun, at_next, row_tests_begun, row_tests_go, tests_few, row_tests_few}
use Rattle.list_walk.proofs.steps.walk_row.Given as goal

abbrev pub invariant-loop-j : goal.invariant-loop-j
invariant-loop-j l =
    (l.j ≤ l.end)
    × Walking (candidate (tabled l.positions l.edges l.triangles l.stands) l.kind l.i) l.most l.initial.list l.from (second_from l.kind l.i) l.list l.k l.j
    × AtRun l.kind l.end l.j
    × (l.tests ≡ tests_up_to (tabled l.positions l.edges l.triangles l.stands) l.kind l.i l.j)

abbrev pub decreases-loop-j : goal.decreases-loop-j
decreases-loop-j l = l.end - l.j

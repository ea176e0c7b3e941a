-- `series_laws::walk_run`: a run that is met is walked, and one that is missed has no listed pair.
use borrow.Author.Rules.{rules}
use native.Mathlib.Omega.{arith}
use Prim.Native.Nat.{◌/◌}
use mathlib.Core.Path.{sym, ◌∙◌}
use Rattle.scene_seams.specs.Alone.{tabled}
use Rattle.meaning.specs.Runs.{run_to}
use Rattle.list_entries.specs.UpTo.{walked_none}
use Rattle.list_candidates.specs.Rows.{second_count, few_seconds, stretch_short}
use Rattle.list_walk.specs.Skipping.{run_skipped}
use Rattle.list_walk.specs.Testing.{tests_met, tests_missed}
use Rattle.list_walk.proofs.steps.walk_run.Goals as goal

pub run_to-end-requires : goal.run_to-end-requires
run_to-end-requires c =
    let start = c in
    omega (arith, start.requires.prepared.2, few_seconds _ start.args.kind start.requires.prepared.0.accepted)

pub walk_stretch-next-requires : goal.walk_stretch-next-requires
walk_stretch-next-requires c =
    let start = c in
    let n = c.second_count.ensures in
    let end = c.run_to-end.ensures in record { prepared = (start.requires.prepared.0, start.requires.prepared.1, omega (arith, start.requires.prepared.2), omega arith); most_in_bounds = start.requires.most_in_bounds }

pub overflow_sub-end : goal.overflow_sub-end
overflow_sub-end c = omega (arith, c.requires.prepared.2, c.run_to-end.ensures, c.second_count.ensures, c.walk_stretch-next.ensures.counts)

pub overflow_add-end : goal.overflow_add-end
overflow_add-end c =
    let start = c in
    let a = start.args in
    let s = tabled a.positions.now a.edges.now a.triangles.now a.stands.now in
    let to = run_to (second_count s a.kind) (a.j / 16) in
    let walked = rw (c.run_to-end.ensures, c.second_count.ensures) at c.walk_stretch-next.ensures in
    omega (arith, c.run_to-end.ensures, c.second_count.ensures, few_seconds s a.kind start.requires.prepared.0.accepted, walked.counts, stretch_short s a.kind a.i a.j to)

pub returns-then-run_meets : goal.returns-then-run_meets
returns-then-run_meets c =
    let start = c in
    let a = start.args in
    let s = tabled a.positions.now a.edges.now a.triangles.now a.stands.now in (
      rw (c.run_to-end.ensures, c.second_count.ensures) at c.walk_stretch-next.ensures,
      tests_met s a.kind a.i a.j start.requires.prepared.2 start.requires.prepared.3 c.run_meets.ensures c.if-run_meets.true c.point_tests-tests.ensures
          (omega (arith, c.run_to-end.ensures, c.second_count.ensures)),
    )

pub returns-else-run_meets : goal.returns-else-run_meets
returns-else-run_meets c =
    let start = c in
    let a = start.args in
    let s = tabled a.positions.now a.edges.now a.triangles.now a.stands.now in (
      rw (run_skipped s a.kind a.i a.j (a.j / 16) (omega arith) (omega (arith, start.requires.prepared.2)) (sym c.run_meets.ensures ∙ c.if-run_meets.false))
          (walked_none _ _ _),
      tests_missed s a.kind a.i (a.j / 16) c.run_meets.ensures c.if-run_meets.false c.point_tests-tests-else-run_meets.ensures,
    )

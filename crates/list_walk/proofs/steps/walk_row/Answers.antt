use borrow.Author.Rules.{rules}
use native.Mathlib.Omega.{arith}
use Prim.Native.Nat.{◌-◌, ◌/◌, ◌≤◌}
use mathlib.Core.Path.{◌≡◌, sym}
use Rattle.scene_seams.specs.Alone.{tabled}
use Rattle.meaning.specs.Runs.{run_to}
use Rattle.list_entries.specs.UpTo.{Walking, walking_starts}
use Rattle.list_entries.proofs.UpTo.{walking_more, walked_length}
use Rattle.list_candidates.specs.Rows.{second_count, second_from, candidate, row_begins, stretch_short, few_firsts, few_seconds}
use Rattle.list_walk.specs.Testing.{tests_up_to, AtRun, at_begun, at_next, row_tests_begun, row_tests_go, tests_few, row_tests_few}
use Rattle.list_walk.proofs.steps.walk_row.Goals as goal

pub second_from-j-requires : goal.second_from-j-requires
second_from-j-requires c =
    let start = c in
    omega (arith, start.requires.prepared.1, few_firsts _ start.args.kind start.requires.prepared.0.accepted)

pub loop-j-init : goal.loop-j-init
loop-j-init c =
    let start = c in
    let a = start.args in
    let s = tabled a.positions.now a.edges.now a.triangles.now a.stands.now in (
      omega (arith, c.second_from-j.ensures, c.second_count-end.ensures, row_begins s a.kind a.i start.requires.prepared.1),
      rw c.second_from-j.ensures (walking_starts _ _ _ _),
      rw c.second_from-j.ensures (at_begun a.kind _ a.i),
      rw c.second_from-j.ensures (sym (row_tests_begun s a.kind a.i)),
    )

pub walk_run-run-requires : goal.walk_run-run-requires
walk_run-run-requires c =
    let start = c in
    let a = start.args in
    let s = tabled a.positions.now a.edges.now a.triangles.now a.stands.now in
    let inv = c.loop-j.invariant in
    let n = c.second_count-end.ensures in
    let few = few_seconds s a.kind start.requires.prepared.0.accepted in
    let short = stretch_short s a.kind a.i (second_from a.kind a.i) c.loop-j.j in record { prepared = (start.requires.prepared.0, start.requires.prepared.1, omega arith, rw n at inv.2); most_in_bounds = (omega (arith, start.requires.most_in_bounds, walked_length inv.1.done), omega (arith, start.requires.most_in_bounds, inv.0, inv.1.done.counts)) }

pub overflow_add-tests : goal.overflow_add-tests
overflow_add-tests c =
    let start = c in
    let a = start.args in
    let s = tabled a.positions.now a.edges.now a.triangles.now a.stands.now in
    let inv = c.loop-j.invariant in
    let j = c.loop-j.j in
    let ran = c.walk_run-run.ensures in
    omega (arith, inv.0, inv.3, ran.1, tests_few s a.kind a.i (j / 16), row_tests_few s a.kind a.i j, c.second_count-end.ensures, few_seconds s a.kind start.requires.prepared.0.accepted)

pub run_to-j-requires : goal.run_to-j-requires
run_to-j-requires c =
    let start = c in
    omega (arith, c.second_count-end.ensures, few_seconds _ start.args.kind start.requires.prepared.0.accepted)

pub loop-j-preserved : goal.loop-j-preserved
loop-j-preserved c =
    let start = c in
    let a = start.args in
    let s = tabled a.positions.now a.edges.now a.triangles.now a.stands.now in
    let inv = c.loop-j.invariant in
    let j = c.loop-j.j in
    let n = c.second_count-end.ensures in
    let ran = c.walk_run-run.ensures in (
      omega (arith, c.run_to-j.ensures),
      rw (c.run_to-j.ensures, n) (walking_more (candidate s a.kind a.i) (run_to (second_count s a.kind) (j / 16)) (omega arith) inv.1 ran.0),
      rw c.run_to-j.ensures (at_next a.kind _ (j / 16)),
      rw c.run_to-j.ensures (omega (arith, inv.3, ran.1, row_tests_go s a.kind a.i _ j c.loop-j-test.true inv.2)),
    )

pub shape_of-list : goal.shape_of-list
shape_of-list c = walked_length c.loop-j.invariant.1.done

pub returns : goal.returns
returns c =
    let start = c in
    let a = start.args in
    let s = tabled a.positions.now a.edges.now a.triangles.now a.stands.now in
    let all : c.loop-j.j ≡ second_count s a.kind = omega (arith, c.loop-j.invariant.0, c.second_count-end.ensures) in
    (rw all at c.loop-j.invariant.1.done, rw all at c.loop-j.invariant.3)

pub loop-j-smaller : goal.loop-j-smaller
loop-j-smaller c = omega (arith, c.run_to-j.ensures)

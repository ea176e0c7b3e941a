use Rattle.std.proofs.Common.{◌≡◌, sym, arith}
use Rattle.sequences.specs.Gather.{sum_none}
use Rattle.scene_seams.specs.Alone.{tabled}
use Rattle.list_entries.specs.UpTo.{walking_starts}
use Rattle.list_entries.proofs.UpTo.{walking_next, walked_length}
use Rattle.list_candidates.specs.Rows.{first_count, second_count, rows_up_to, few_firsts, few_seconds}
use Rattle.list_walk.specs.Testing.{row_tests_few, rows_tests_few, rows_tests_go}
use Rattle.list_walk.proofs.steps.walk_rows.Goals as goal

pub loop-i-init : goal.loop-i-init
loop-i-init c = record { walked = walking_starts _ _ _ _; tested = sym (sum_none _ 0 0 (omega arith)) }

pub walk_row-row-requires : goal.walk_row-row-requires
walk_row-row-requires c =
    let a = c.args in
    let s = tabled a.positions.now a.edges.now a.triangles.now a.stands.now in
    let accepted = c.requires.prepared.accepted in
    let before = c.loop-i.invariant.walked.done in
    let end = c.first_count-end.ensures in
    let few = few_firsts s a.kind accepted in
    let short = rows_up_to s a.kind accepted c.loop-i.i in
    record {
      prepared = (c.requires.prepared, omega arith);
      most_in_bounds = (omega (arith, c.requires.most_in_bounds, walked_length before), omega (arith, c.requires.most_in_bounds, before.counts));
    }

pub overflow_add-tests : goal.overflow_add-tests
overflow_add-tests c =
    let a = c.args in
    let s = tabled a.positions.now a.edges.now a.triangles.now a.stands.now in
    let accepted = c.requires.prepared.accepted in
    let i = c.loop-i.i in
    omega (arith, c.loop-i.invariant.tested, c.walk_row-row.ensures.1, rows_tests_few s a.kind accepted i, row_tests_few s a.kind i (second_count s a.kind), c.first_count-end.ensures, few_firsts s a.kind accepted, few_seconds s a.kind accepted)

pub loop-i-preserved : goal.loop-i-preserved
loop-i-preserved c =
    let a = c.args in
    let s = tabled a.positions.now a.edges.now a.triangles.now a.stands.now in
    let before = c.loop-i.invariant in
    let row = c.walk_row-row.ensures in
    record {
      walked = walking_next _ before.walked row.0;
      tested = omega (arith, before.tested, row.1, rows_tests_go s a.kind c.loop-i.i);
    }

pub returns : goal.returns
returns c =
    let a = c.args in
    let s = tabled a.positions.now a.edges.now a.triangles.now a.stands.now in
    let done = c.loop-i.invariant in
    let all : c.loop-i.i ≡ first_count s a.kind = omega (arith, c.first_count-end.ensures) in
    (rw all at done.walked.done, rw all at done.tested)

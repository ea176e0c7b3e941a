use native.Mathlib.Omega.{arith}
use Rattle.mesh_entries.specs.Entering.{entered_length}
use Rattle.mesh_runs.specs.Going.{kind_few}
use Rattle.mesh_runs.specs.Stretch.{runs_start, run_passed, runs_next, runs_last, runs_end}
use Rattle.mesh_runs.proofs.walk_kind.Goals as goal

pub loop-i-init : goal.loop-i-init
loop-i-init c = runs_start _ c.requires.kind_tree.1

pub walk_run-k-requires : goal.walk_run-k-requires
walk_run-k-requires c =
    let a = c.args in
    let pre = c.requires.kind_tree in
    let lent = c.requires.in_bounds in
    let room = c.requires.most_in_bounds in
    let loop = c.loop-i in
    let below = c.loop-i-test.true in
    let next = c.min-next.ensures in
    let so_far = run_passed _ below loop.invariant in
    let past = so_far.past in
    let rows = pre.0.few_rows in
    let last = pre.2 in
    let few = kind_few a.which pre.0 a.first loop.i (omega arith) in
    record {
      kind_tree = (pre.0, omega arith, omega arith, omega arith);
      in_bounds = (omega (arith, lent.0, loop.auto.six), omega (arith, lent.1, loop.auto.marks));
      most_in_bounds = (omega (arith, room.0, entered_length so_far.done), omega (arith, room.1, so_far.done.counts));
    }

pub loop-i-preserved : goal.loop-i-preserved
loop-i-preserved c = runs_next _ _ c.loop-i-test.true c.min-next.ensures c.loop-i.invariant c.walk_run-k.ensures

pub returns : goal.returns
returns c = runs_end _ c.loop-i-test.false c.loop-i.invariant

pub returns-2 : goal.returns-2
returns-2 c = runs_last _ c.loop-i-test.true (omega (arith, c.min-next.ensures)) c.loop-i.invariant c.walk_run-k.ensures

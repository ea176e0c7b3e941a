-- `walk_run`: the places that the joint box meets serve each row, where there was room for all of them.
use native.Mathlib.Omega.{arith}
use Rattle.mesh_runs.specs.Runs.{run_sought}
use Rattle.mesh_runs.proofs.walk_run.Goals as goal

pub enter_run-requires : goal.enter_run-requires
enter_run-requires c =
    let start = c in
    let a = start.args in
    let pre = start.requires.kind_tree in
    let found = c.find_met-count.ensures in
    let asked = c.first_second-from.ensures in record {
      all_sought = (run_sought a.which pre.0 a.first a.end pre.1 pre.3 _ c.join_rows.ensures asked (omega (arith, c.if-count-places.true, found.same)) found, pre.1, pre.2, omega (arith, pre.3, pre.0.few_rows), pre.0.low);
      in_bounds = start.requires.in_bounds;
      most_in_bounds = start.requires.most_in_bounds;
    }

pub enter_alone-requires : goal.enter_alone-requires
enter_alone-requires c =
    let start = c in
    let pre = start.requires.kind_tree in record { kind_tree = (pre.0, omega (arith, pre.1), pre.2, pre.3); most_in_bounds = start.requires.most_in_bounds }

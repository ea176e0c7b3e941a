-- `walk_run`: the places that are not far from the run's boxes serve each row, where there was room for all of them.
use native.Mathlib.Omega.{arith}
use Rattle.mesh_entries.specs.Entering.{entered_length}
use Rattle.near_runs.specs.Near.{near_sought}
use Rattle.near_runs.proofs.walk_run.Goals as goal

pub hold_run-requires : goal.hold_run-requires
hold_run-requires c =
    let pre = c.requires.near_kind in
    (pre.0.known, omega (arith, pre.1), pre.3, omega arith, omega (arith, pre.3, pre.0.rows.few_rows))

pub first_second-from-requires : goal.first_second-from-requires
first_second-from-requires c =
    let pre = c.requires.near_kind in
    omega (arith, pre.1, pre.3, pre.0.rows.few_rows)

pub find_near-count-requires : goal.find_near-count-requires
find_near-count-requires c =
    let pre = c.requires.near_kind in
    (pre.0.nodes, omega (arith, c.hold_run.ensures.1), omega (arith, pre.0.rows.few))

pub bounds-levels-0 : goal.bounds-levels-0
bounds-levels-0 c = omega (arith, c.requires.near_kind.0.rows.tree.room)

pub enter_run-requires : goal.enter_run-requires
enter_run-requires c =
    let start = c in
    let a = start.args in
    let pre = start.requires.near_kind in
    let found = c.find_near-count.ensures in record {
      all_sought = (near_sought pre.0.rows a.first a.end pre.3 c.hold_run.ensures.0 c.first_second-from.ensures (omega (arith, c.if-count-places.true, entered_length found)) found, pre.1, pre.2, omega (arith, pre.3, pre.0.rows.few_rows), pre.0.rows.low);
      in_bounds = start.requires.in_bounds;
      most_in_bounds = start.requires.most_in_bounds;
    }

pub enter_alone-requires : goal.enter_alone-requires
enter_alone-requires c =
    let start = c in
    let pre = start.requires.near_kind in record { kind_tree = (pre.0.rows, omega (arith, pre.1), pre.2, pre.3); most_in_bounds = start.requires.most_in_bounds }

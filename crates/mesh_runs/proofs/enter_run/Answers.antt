-- `enter_run`: the places of the first row are those of the run, and their boxes are spread where there is room.
use native.Mathlib.Omega.{arith}
use Rattle.mesh_runs.proofs.enter_run.Goals as goal

pub spread_boxes-requires : goal.spread_boxes-requires
spread_boxes-requires c =
    let start = c in
    let pre = start.requires.all_sought in
    let one = pre.0 start.args.first (omega arith) pre.1 in
    (record { room = one.room; reach = one.reach }, c.if-count-le-SPREAD_PLACES.true, start.requires.in_bounds.0)

pub enter_spread-requires : goal.enter_spread-requires
enter_spread-requires c =
    let start = c in
    let pre = start.requires.all_sought in
    let lent = start.requires.in_bounds in record { all_sought = (pre.0, omega (arith, pre.1), pre.2, pre.3, pre.4); spread = (c.spread_boxes.ensures, c.if-count-le-SPREAD_PLACES.true, omega (arith, lent.0, c.six-1.given), lent.1); most_in_bounds = start.requires.most_in_bounds }

pub enter_each-requires : goal.enter_each-requires
enter_each-requires c =
    let start = c in
    let pre = start.requires.all_sought in record { all_sought = (pre.0, omega (arith, pre.1), pre.2, pre.3, pre.4); most_in_bounds = start.requires.most_in_bounds }

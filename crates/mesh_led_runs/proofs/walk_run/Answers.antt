-- `walk_run`: the parts that the joint box meets serve each row, where there was room for all of them.
use native.Mathlib.Omega.{arith}
use Rattle.mesh_order_rows.specs.Led.{own_there}
use Rattle.mesh_led_runs.specs.RunRows.{led_run, run_parts, run_spread}
use Rattle.mesh_led_runs.proofs.walk_run.Goals as goal

pub join_rows-requires : goal.join_rows-requires
join_rows-requires c =
    let pre = c.requires.led_tree in
    let rows = pre.0.few_rows in
    (λ i h. own_there pre.0 i (omega (arith, pre.1, pre.3)), omega (arith, pre.1), omega (arith, pre.2), omega (arith, pre.1, pre.3), omega arith)

pub first_second-from-requires : goal.first_second-from-requires
first_second-from-requires c = let pre = c.requires.led_tree in omega (arith, pre.0.few_rows, pre.1, pre.3)

pub find_run-count-requires : goal.find_run-count-requires
find_run-count-requires c =
    let start = c in
    let pre = start.requires.led_tree in
    (pre.0.tree, pre.0.order, pre.0.few, omega arith, start.requires.parts_in_bounds.0)

pub spread_parts-requires : goal.spread_parts-requires
spread_parts-requires c =
    let start = c in
    let a = start.args in
    let pre = start.requires.led_tree in
    let run = led_run pre.0 a.first a.end pre.3 c.join_rows.ensures c.first_second-from.ensures c.find_run-count.ensures in
    (run_parts pre.0 run, c.if-count-le-SPREAD_PARTS.true, start.requires.parts_in_bounds.1)

pub enter_near-requires : goal.enter_near-requires
enter_near-requires c =
    let start = c in
    let a = start.args in
    let pre = start.requires.led_tree in
    let lent = start.requires.parts_in_bounds in
    let run = led_run pre.0 a.first a.end pre.3 c.join_rows.ensures c.first_second-from.ensures c.find_run-count.ensures in record { led_run = (run, omega (arith, pre.1), pre.2, omega (arith, pre.3, pre.0.few_rows), omega (arith, c.own-2-1.given)); parts_spread = (run_spread pre.0 run c.spread_parts.ensures, c.if-count-le-SPREAD_PARTS.true, omega (arith, lent.1, c.six-1.given), lent.2); most_in_bounds = start.requires.most_in_bounds }

pub returns-then-count-le-SPREAD_PARTS : goal.returns-then-count-le-SPREAD_PARTS
returns-then-count-le-SPREAD_PARTS c = c.enter_near.ensures

pub returns-else-count-le-SPREAD_PARTS : goal.returns-else-count-le-SPREAD_PARTS
returns-else-count-le-SPREAD_PARTS c = c.enter_alone.ensures

-- `join_rows`: the rows' boxes stand in front, and their run has a joint box.
use native.Mathlib.Omega.{arith}
use Rattle.mesh_led_runs.specs.RowBoxes.{rows_joined}
use Rattle.mesh_led_runs.proofs.boxes.join_rows.Goals as goal

pub own_boxes-requires : goal.own_boxes-requires
own_boxes-requires c = let pre = c.requires in (pre.0, pre.2, pre.3, pre.4)

pub fill_runs-requires : goal.fill_runs-requires
fill_runs-requires c =
    let pre = c.requires in
    (omega (arith, pre.2), omega (arith, pre.2), omega (arith, pre.1, pre.2, pre.4, c.own-1.given))

pub returns : goal.returns
returns c =
    let pre = c.requires in
    rows_joined pre.1 pre.2 c.own_boxes.ensures c.fill_runs.ensures

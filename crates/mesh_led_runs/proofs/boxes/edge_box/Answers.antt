-- `edge_box`: the box of one end, widened by the other's.
use native.Mathlib.Omega.{arith}
use Rattle.mesh_led_runs.specs.PartBoxes.{copied_widened}
use Rattle.mesh_led_runs.proofs.boxes.edge_box.Goals as goal

pub copy_box-requires : goal.copy_box-requires
copy_box-requires c =
    let pre = c.requires in
    omega (arith, pre.1 0 (omega arith), c.edge_end-a.ensures, pre.2)

pub widen-requires : goal.widen-requires
widen-requires c =
    let pre = c.requires in
    omega (arith, pre.1 1 (omega arith), c.edge_end-b.ensures, pre.2, c.copy_box.ensures.same)

pub returns : goal.returns
returns c = (copied_widened _ (rw c.edge_end-a.ensures at c.copy_box.ensures) (rw c.edge_end-b.ensures at c.widen.ensures)).here

-- `own_box`: the box of one vertex, widened by the other's.
use native.Mathlib.Omega.{arith}
use Rattle.mesh_led_runs.specs.PartBoxes.{copied_widened}
use Rattle.mesh_led_runs.proofs.boxes.own_box.Goals as goal

pub vertex_of-a-requires : goal.vertex_of-a-requires
vertex_of-a-requires c = (c.requires.0.edge, omega arith)

pub vertex_of-b-requires : goal.vertex_of-b-requires
vertex_of-b-requires c = (c.requires.0.edge, omega arith)

pub copy_box-requires : goal.copy_box-requires
copy_box-requires c =
    let pre = c.requires in
    omega (arith, pre.0.inside 0 (omega arith), c.vertex_of-a.ensures, pre.1, pre.2)

pub widen-requires : goal.widen-requires
widen-requires c =
    let pre = c.requires in
    omega (arith, pre.0.inside 1 (omega arith), c.vertex_of-b.ensures, pre.1, pre.2, c.copy_box.ensures.same)

pub returns : goal.returns
returns c = copied_widened _ (rw c.vertex_of-a.ensures at c.copy_box.ensures) (rw c.vertex_of-b.ensures at c.widen.ensures)

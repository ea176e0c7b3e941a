-- `triangle_box`: the box of one corner, widened by those of the two others.
use native.Mathlib.Omega.{arith}
use Rattle.mesh_led_runs.specs.PartBoxes.{copied_widened, widened_again}
use Rattle.mesh_led_runs.proofs.boxes.triangle_box.Goals as goal

pub copy_box-requires : goal.copy_box-requires
copy_box-requires c =
    let pre = c.requires in
    omega (arith, pre.1 0 (omega arith), c.corner-a.ensures, pre.2)

pub widen-requires : goal.widen-requires
widen-requires c =
    let pre = c.requires in
    omega (arith, pre.1 1 (omega arith), c.corner-b.ensures, pre.2, c.copy_box.ensures.same)

pub widen-requires-2 : goal.widen-requires-2
widen-requires-2 c =
    let pre = c.requires in
    omega (arith, pre.1 2 (omega arith), c.corner-c.ensures, pre.2, c.copy_box.ensures.same, c.widen.ensures.same)

pub returns : goal.returns
returns c =
    (widened_again _
    (copied_widened _ (rw c.corner-a.ensures at c.copy_box.ensures) (rw c.corner-b.ensures at c.widen.ensures))
    (rw c.corner-c.ensures at c.widen-2.ensures)).here

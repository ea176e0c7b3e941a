-- `own_box`: the boxes of the two vertices, and then their joint box.
use borrow.Author.Rules.{rules}
use native.Mathlib.Omega.{arith}
use Rattle.mesh_order_rows.specs.Led.{joined_behind}
use Rattle.mesh_order_rows.proofs.own_box.Goals as goal

pub vertex_of-a-requires : goal.vertex_of-a-requires
vertex_of-a-requires c = (c.requires.0.edge, omega arith)

pub vertex_of-b-requires : goal.vertex_of-b-requires
vertex_of-b-requires c = (c.requires.0.edge, omega arith)

pub copy_box-requires : goal.copy_box-requires
copy_box-requires c =
    let pre = c.requires in
    omega (arith, pre.0.inside 0 (omega arith), c.vertex_of-a.ensures, pre.1)

pub copy_box-requires-2 : goal.copy_box-requires-2
copy_box-requires-2 c =
    let pre = c.requires in
    omega (arith, pre.0.inside 1 (omega arith), c.vertex_of-b.ensures, pre.1, c.copy_box.ensures.same)

pub store_joint_box-requires : goal.store_joint_box-requires
store_joint_box-requires c =
    let pre = c.requires in
    omega (arith, pre.1, c.copy_box.ensures.same, c.copy_box-2.ensures.same)

pub returns : goal.returns
returns c =
    joined_behind (rw c.vertex_of-a.ensures at c.copy_box.ensures) (rw c.vertex_of-b.ensures at c.copy_box-2.ensures)
    c.store_joint_box.ensures

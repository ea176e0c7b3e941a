-- `filling::store_triangle`: the corners are vertices, whose boxes stand in the list.
use borrow.Author.Rules.{rules}
use native.Mathlib.Omega.{arith}
use Rattle.list_boxes.specs.Parts.{corner_known, triangle_stored}
use Rattle.list_boxes.proofs.filling.store_triangle.Goals as goal

pub store_joint_box-requires : goal.store_joint_box-requires
store_joint_box-requires c =
    let start = c in
    let known = corner_known start.requires.ready start.args.j start.requires.j_bound in
    omega (arith, known 0 (omega arith), known 1 (omega arith))

pub store_joint_box-requires-2 : goal.store_joint_box-requires-2
store_joint_box-requires-2 c =
    let start = c in
    let known = corner_known start.requires.ready start.args.j start.requires.j_bound in
    omega (arith, c.corner-third.ensures, c.store_joint_box.auto.boxes, start.requires, known 2 (omega arith))

pub returns : goal.returns
returns c =
    let start = c in
    triangle_stored start.requires.ready start.args.j start.requires.j_bound
    (omega (arith, c.edge_count.ensures, c.vertex_count.ensures))
    c.corner.ensures
    c.corner-2.ensures
    c.corner-third.ensures
    c.store_joint_box.ensures
    c.store_joint_box-2.ensures

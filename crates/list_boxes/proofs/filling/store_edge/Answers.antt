-- `filling::store_edge`: the ends are vertices, whose boxes stand in the list.
use borrow.Author.Rules.{rules}
use native.Mathlib.Omega.{arith}
use Rattle.list_boxes.specs.Parts.{end_known, edge_stored}
use Rattle.list_boxes.proofs.filling.store_edge.Goals as goal

pub store_joint_box-requires : goal.store_joint_box-requires
store_joint_box-requires c =
    let start = c in
    let known = end_known start.requires.ready start.args.j start.requires.j_bound in
    omega (arith, known 0 (omega arith), known 1 (omega arith))

pub returns : goal.returns
returns c =
    let start = c in
    edge_stored start.requires.ready start.args.j start.requires.j_bound
    (omega (arith, c.vertex_count.ensures))
    c.edge_end.ensures
    c.edge_end-2.ensures
    c.store_joint_box.ensures

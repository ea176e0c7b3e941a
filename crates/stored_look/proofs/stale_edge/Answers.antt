-- `stale_edge`: the ends are vertices, whose boxes are right.
use borrow.Author.Rules.{rules}
use native.Mathlib.Omega.{arith}
use Rattle.list_boxes.specs.Parts.{end_known}
use Rattle.stored_look.specs.Looked.{edge_told}
use Rattle.stored_look.proofs.stale_edge.Goals as goal

pub other_joint_box-requires : goal.other_joint_box-requires
other_joint_box-requires c =
    let start = c in
    let known = end_known start.requires.ready start.args.j start.requires.j_bound in
    omega (arith, known 0 (omega arith), known 1 (omega arith), start.requires.ready.behind, start.requires.ready.room, c.vertex_count.ensures, c.edge_end.ensures, c.edge_end-2.ensures)

pub returns : goal.returns
returns c =
    let start = c in
    edge_told start.requires.ready start.args.j start.requires.j_bound
    (omega (arith, c.vertex_count.ensures))
    c.edge_end.ensures
    c.edge_end-2.ensures
    c.other_joint_box.ensures

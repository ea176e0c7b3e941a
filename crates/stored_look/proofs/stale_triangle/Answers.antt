-- `stale_triangle`: the corners are vertices, whose boxes are right.
use borrow.Author.Rules.{rules}
use native.Mathlib.Omega.{arith}
use Rattle.list_boxes.specs.Parts.{corner_known}
use Rattle.stored_look.specs.Looked.{triangle_told}
use Rattle.stored_look.proofs.stale_triangle.Goals as goal

pub other_triple_box-requires : goal.other_triple_box-requires
other_triple_box-requires c =
    let start = c in
    let known = corner_known start.requires.ready start.args.j start.requires.j_bound in
    omega (arith, known 0 (omega arith), known 1 (omega arith), known 2 (omega arith), start.requires.ready.behind, start.requires.ready.room, c.vertex_count.ensures, c.edge_count.ensures, c.corner.ensures, c.corner-2.ensures, c.corner-3.ensures)

pub returns : goal.returns
returns c =
    let start = c in
    triangle_told start.requires.ready start.args.j start.requires.j_bound
    (omega (arith, c.vertex_count.ensures, c.edge_count.ensures))
    c.corner.ensures
    c.corner-2.ensures
    c.corner-3.ensures
    c.other_triple_box.ensures

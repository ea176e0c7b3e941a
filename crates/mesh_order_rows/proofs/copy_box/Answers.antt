-- `copy_box`: span by span.
use borrow.Author.Rules.{rules}
use Rattle.mesh_order_rows.specs.Led.{box_copied}
use Rattle.mesh_order_rows.proofs.copy_box.Goals as goal

pub returns : goal.returns
returns c =
    let start = c in
    let a = start.args in
    box_copied a.boxes.now a.own.now a.v a.to c.copy_span.ensures c.copy_span-2.ensures c.copy_span-3.ensures start.requires.1

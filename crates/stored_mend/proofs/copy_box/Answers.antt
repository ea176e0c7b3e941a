-- `copy_box`: span by span.
use borrow.Author.Rules.{rules}
use Rattle.stored_mend.specs.Mending.{box_copied}
use Rattle.stored_mend.proofs.copy_box.Goals as goal

pub returns : goal.returns
returns c =
    let start = c in
    box_copied start.args.own.now start.args.boxes.now start.args.to c.copy_span.ensures c.copy_span-2.ensures c.copy_span-3.ensures start.requires.1

use borrow.Author.Rules.{rules}
use Rattle.near_boxes.proofs.spans_far.Goals as goal

pub returns : goal.returns
returns c =
    rw (
      c.spans_under.ensures,
      c.spans_over.ensures,
    )

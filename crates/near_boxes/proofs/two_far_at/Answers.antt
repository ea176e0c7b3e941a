use borrow.Author.Rules.{rules}
use Rattle.near_boxes.proofs.two_far_at.Goals as goal

pub returns : goal.returns
returns c =
    rw (
      c.under_at-2.ensures,
      c.under_at.ensures,
      c.over_at-2.ensures,
      c.over_at.ensures,
    )

use borrow.Author.Rules.{rules}
use Rattle.near_boxes.proofs.two_far.Goals as goal

pub returns : goal.returns
returns c =
    rw (
      c.two_far_at-3.ensures,
      c.two_far_at-2.ensures,
      c.two_far_at.ensures,
    )

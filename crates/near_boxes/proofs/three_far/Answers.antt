use borrow.Author.Rules.{rules}
use Rattle.near_boxes.proofs.three_far.Goals as goal

pub returns : goal.returns
returns c =
    rw (
      c.three_far_at-3.ensures,
      c.three_far_at-2.ensures,
      c.three_far_at.ensures,
    )

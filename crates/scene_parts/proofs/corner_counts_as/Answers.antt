use borrow.Author.Rules.{rules}
use Rattle.scene_parts.proofs.corner_counts_as.Goals as goal

pub returns : goal.returns
returns c = rw (c.counts_as.ensures, c.corner.ensures)

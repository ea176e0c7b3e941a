use borrow.Author.Rules.{rules}
use Rattle.scene_parts.proofs.end_counts_as.Goals as goal

pub returns : goal.returns
returns c = rw (c.counts_as.ensures, c.edge_end.ensures)

use borrow.Author.Rules.{rules}
use Rattle.scene_checks.proofs.faults.written_twice_in_edge.Goals as goal

pub returns : goal.returns
returns c = rw (c.edge_end.ensures, c.edge_end-2.ensures)

use borrow.Author.Rules.{rules}
use Rattle.scene_checks.proofs.faults.written_twice_in_triangle.Goals as goal

pub returns : goal.returns
returns c = rw (c.corner-a.ensures, c.corner-b.ensures, c.corner-c.ensures)

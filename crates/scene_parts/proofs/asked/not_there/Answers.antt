use borrow.Author.Rules.{rules}
use Rattle.meaning.specs.Refusals.{not_there}
use Rattle.scene_parts.proofs.asked.not_there.Goals as goal

pub returns-in-PointTriangle : goal.returns-in-PointTriangle
unfolding not_there
returns-in-PointTriangle c w = rw c.in-PointTriangle.is

pub returns-in-EdgeEdge : goal.returns-in-EdgeEdge
unfolding not_there
returns-in-EdgeEdge c w = rw c.in-EdgeEdge.is

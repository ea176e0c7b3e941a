-- `second_from`: by the kind.
use borrow.Author.Rules.{rules}
use Rattle.list_candidates.specs.Rows.{second_from}
use Rattle.list_candidates.proofs.second_from.Goals as goal

pub returns-in-PointTriangle : goal.returns-in-PointTriangle
unfolding second_from
returns-in-PointTriangle c = rw c.in-PointTriangle.is

pub returns-in-EdgeEdge : goal.returns-in-EdgeEdge
unfolding second_from
returns-in-EdgeEdge c = rw c.in-EdgeEdge.is

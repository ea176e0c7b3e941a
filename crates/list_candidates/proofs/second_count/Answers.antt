-- `second_count`: by the kind.
use borrow.Author.Rules.{rules}
use Rattle.list_candidates.specs.Rows.{second_count}
use Rattle.list_candidates.proofs.second_count.Goals as goal

pub returns-in-PointTriangle : goal.returns-in-PointTriangle
unfolding second_count
returns-in-PointTriangle c = rw c.in-PointTriangle.is c.triangle_count.ensures

pub returns-in-EdgeEdge : goal.returns-in-EdgeEdge
unfolding second_count
returns-in-EdgeEdge c = rw c.in-EdgeEdge.is c.edge_count.ensures

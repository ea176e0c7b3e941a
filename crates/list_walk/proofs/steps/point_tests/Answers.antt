-- `series_laws::point_tests`: by the kind.
use borrow.Author.Rules.{rules}
use Rattle.list_walk.specs.Testing.{point_tests}
use Rattle.list_walk.proofs.steps.point_tests.Goals as goal

pub returns-in-PointTriangle : goal.returns-in-PointTriangle
unfolding point_tests
returns-in-PointTriangle c = rw c.in-PointTriangle.is

pub returns-in-EdgeEdge : goal.returns-in-EdgeEdge
unfolding point_tests
returns-in-EdgeEdge c = rw c.in-EdgeEdge.is

-- `skipping::first_place`: by the kind.
use borrow.Author.Rules.{rules}
use native.Mathlib.Omega.{arith}
use Rattle.list_walk.specs.Skipping.{first_place}
use Rattle.list_walk.proofs.skipping.first_place.Goals as goal

pub returns-in-PointTriangle : goal.returns-in-PointTriangle
unfolding first_place
returns-in-PointTriangle c = rw c.in-PointTriangle.is

pub returns-in-EdgeEdge : goal.returns-in-EdgeEdge
unfolding first_place
returns-in-EdgeEdge c = rw c.in-EdgeEdge.is (omega (arith, c.vertex_count.ensures))

-- `skipping::run_place`: by the kind, behind the boxes of all parts.
use borrow.Author.Rules.{rules}
use native.Mathlib.Omega.{arith}
use Rattle.scene_checks.specs.Facts.{accepted_sized}
use Rattle.list_walk.specs.Skipping.{run_place}
use Rattle.list_walk.proofs.skipping.run_place.Goals as goal

pub runs_of-requires : goal.runs_of-requires
runs_of-requires c = omega (arith, c.edge_count-in-PointTriangle.ensures, accepted_sized c.requires.0)

pub returns-in-PointTriangle : goal.returns-in-PointTriangle
unfolding run_place
returns-in-PointTriangle c =
    rw (c.in-PointTriangle.is, ← c.edge_count-in-PointTriangle.ensures)
    (omega (arith, c.runs_of.ensures, c.edge_count-in-PointTriangle.ensures, c.triangle_count.ensures, c.edge_count.ensures, c.vertex_count.ensures))

pub returns-in-EdgeEdge : goal.returns-in-EdgeEdge
unfolding run_place
returns-in-EdgeEdge c =
    rw c.in-EdgeEdge.is
    (omega (arith, c.triangle_count.ensures, c.edge_count.ensures, c.vertex_count.ensures))

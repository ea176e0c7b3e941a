use borrow.Author.Rules.{rules}
use Rattle.scene_seams.specs.Alone.{tabled}
use Rattle.scene_parts.specs.There.{pt_there, ee_there}
use Rattle.scene_parts.proofs.asked.shares_vertex.Goals as goal

pub shares_pt-requires : goal.shares_pt-requires
shares_pt-requires c =
    let a = c.args in
    (pt_there (tabled a.positions.now a.edges.now a.triangles.now a.stands.now) a.i a.j (rw c.in-PointTriangle.is at c.requires)).1

pub shares_ee-requires : goal.shares_ee-requires
shares_ee-requires c =
    let a = c.args in
    ee_there (tabled a.positions.now a.edges.now a.triangles.now a.stands.now) a.i a.j (rw c.in-EdgeEdge.is at c.requires)

pub returns-in-PointTriangle : goal.returns-in-PointTriangle
returns-in-PointTriangle c = rw c.in-PointTriangle.is (c.shares_pt.ensures _ _)

pub returns-in-EdgeEdge : goal.returns-in-EdgeEdge
returns-in-EdgeEdge c = rw c.in-EdgeEdge.is (c.shares_ee.ensures _ _)

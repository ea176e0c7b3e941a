-- `vertex_of`: by the kind.
use borrow.Author.Rules.{rules}
use Rattle.mesh_order_rows.specs.Led.{vertex_of}
use Rattle.mesh_order_rows.proofs.vertex_of.Goals as goal

pub edge_end-requires : goal.edge_end-requires
edge_end-requires c = let pre = c.requires in (pre.0 c.in-EdgeEdge.is, pre.1)

pub returns-in-PointTriangle : goal.returns-in-PointTriangle
unfolding vertex_of
returns-in-PointTriangle c = rw c.in-PointTriangle.is

pub returns-in-EdgeEdge : goal.returns-in-EdgeEdge
unfolding vertex_of
returns-in-EdgeEdge c = rw c.in-EdgeEdge.is c.edge_end.ensures

-- `kind_part`: by the kind.
use borrow.Author.Rules.{rules}
use Rattle.meaning.specs.MeshRows.{mesh_kind_part}
use Rattle.mesh_entries.proofs.kind_part.Goals as goal

pub returns-in-PointTriangle : goal.returns-in-PointTriangle
unfolding mesh_kind_part
returns-in-PointTriangle c = rw c.in-PointTriangle.is

pub returns-in-EdgeEdge : goal.returns-in-EdgeEdge
unfolding mesh_kind_part
returns-in-EdgeEdge c = rw c.in-EdgeEdge.is

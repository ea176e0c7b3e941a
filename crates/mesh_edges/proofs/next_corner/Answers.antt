use Rattle.mesh_edges.specs.Sides.{next_at_end, next_before}
use Rattle.mesh_edges.proofs.next_corner.Goals as goal

pub returns-then-k-eq2 : goal.returns-then-k-eq2
returns-then-k-eq2 c = next_at_end _ c.if-k-eq2.true

pub returns-else-k-eq2 : goal.returns-else-k-eq2
returns-else-k-eq2 c = next_before _ c.if-k-eq2.false

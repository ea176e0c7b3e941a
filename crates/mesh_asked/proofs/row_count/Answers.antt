-- `row_count`: what its calls ensure, put together.
use Prim.Native.Nat.{◌+◌}
use Rattle.mesh_asked.proofs.row_count.Goals as goal

pub returns : goal.returns
returns c =
    let vertices = c.vertex_count.ensures in
    let edges = c.edge_count.ensures in
    λ t. vertices t + edges t

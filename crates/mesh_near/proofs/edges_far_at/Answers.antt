use Rattle.mesh_near.proofs.edges_far_at.Goals as goal

pub returns : goal.returns
returns c =
    rw (
      c.edge_under-4.ensures,
      c.edge_under-3.ensures,
      c.edge_under-2.ensures,
      c.edge_under.ensures,
    )

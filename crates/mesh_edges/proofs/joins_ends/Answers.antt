use Rattle.mesh_edges.proofs.joins_ends.Goals as goal

pub returns : goal.returns
returns c = rw (c.edge_end-c.ensures, c.edge_end-d.ensures)

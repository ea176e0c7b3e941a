use Rattle.mesh_checks.proofs.faults.repeated_vertex.Goals as goal

pub returns : goal.returns
returns c = rw (c.repeated_in_edges.ensures, c.repeated_in_triangles.ensures)

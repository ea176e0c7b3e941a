use Rattle.mesh_checks.proofs.faults.unknown_vertex.Goals as goal

pub returns : goal.returns
returns c = rw (c.unknown_in.ensures, c.unknown_in-2.ensures, c.unknown_in-3.ensures)

use Rattle.mesh_checks.proofs.faults.twice_in_edge.Goals as goal

pub returns : goal.returns
returns c = rw (c.end_counts_as.ensures, c.end_counts_as-2.ensures)

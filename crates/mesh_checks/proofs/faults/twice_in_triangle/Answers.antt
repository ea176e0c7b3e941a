use Rattle.mesh_checks.proofs.faults.twice_in_triangle.Goals as goal

pub returns : goal.returns
returns c = rw (c.corner_counts_as-a.ensures, c.corner_counts_as-b.ensures, c.corner_counts_as-c.ensures)

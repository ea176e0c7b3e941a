use Rattle.mesh_near.proofs.point_far.Goals as goal

pub returns : goal.returns
returns c = rw (c.point_far_at-3.ensures, c.point_far_at-2.ensures, c.point_far_at.ensures)

use Rattle.mesh_near.proofs.point_far_at.Goals as goal

pub returns : goal.returns
returns c =
    rw (
      c.below-6.ensures,
      c.below-5.ensures,
      c.below-4.ensures,
      c.below-3.ensures,
      c.below-2.ensures,
      c.below.ensures,
    )

use mir.Facts.{to_z-of_z}
use Rattle.exact_signs.proofs.ways.not_below.Goals as goal

pub returns-then-up : goal.returns-then-up
returns-then-up c = simp (c.if-up.true, to_z-of_z c.ranges.n)

pub returns-else-up : goal.returns-else-up
returns-else-up c = simp (c.if-up.false, to_z-of_z c.ranges.n)

use mir.Facts.{to_z-of_z}
use Rattle.exact_signs.specs.BySigns.{keep}
use Rattle.exact_signs.proofs.keep_if.Goals as goal

pub returns-then-counts : goal.returns-then-counts
unfolding keep
returns-then-counts c = simp (c.if-counts.true, to_z-of_z c.ranges.e)

pub returns-else-counts : goal.returns-else-counts
unfolding keep
returns-else-counts c = simp c.if-counts.false

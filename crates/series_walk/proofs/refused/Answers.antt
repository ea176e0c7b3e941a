use mathlib.Core.Path.{refl}
use Rattle.series_walk.proofs.refused.Goals as goal

pub returns : goal.returns
returns c = rw c.nothing_told.ensures refl

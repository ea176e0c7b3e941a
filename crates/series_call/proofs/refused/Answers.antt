use mathlib.Core.Path.{refl}
use Rattle.series_call.proofs.refused.Goals as goal

pub returns : goal.returns
returns c = rw c.refused.ensures refl

use mathlib.Core.Path.{refl}
use Rattle.series_words.proofs.nothing_told.Goals as goal

pub returns : goal.returns
returns c = rw c.empty_log.ensures refl

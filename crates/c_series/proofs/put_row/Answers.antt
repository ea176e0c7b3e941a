-- `put_row`: two stores.
use mathlib.Core.Path.{refl}
use Rattle.c_series.proofs.put_row.Goals as goal

pub returns : goal.returns
returns c = rw c.number_of-entry.ensures refl

-- By the time.
use mathlib.Core.Path.{refl}
use Rattle.pierced_pair.specs.Vertices.{offset_of}
use Rattle.pierced_pair.proofs.places.place_of.Goals as goal

pub returns-in-Start : goal.returns-in-Start
unfolding offset_of
returns-in-Start c = rw c.in-Start.is refl

pub returns-in-End : goal.returns-in-End
unfolding offset_of
returns-in-End c = rw c.in-End.is refl

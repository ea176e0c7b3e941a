use Rattle.pierced_pair.specs.Places.{six_in, tells}
use Rattle.pierced_pair.proofs.places.in_common.Goals as goal

pub piece_touches-requires : goal.piece_touches-requires
piece_touches-requires c = six_in c.requires

pub returns : goal.returns
returns c = let a = c.args in tells a.positions.now a.a a.b a.c a.d a.e _ c.piece_touches.ensures

-- `walk_block`: the walk goes by the front alone.
use mathlib.Core.Path.{sym}
use lib.Seq.{length-take-le}
use Rattle.mesh_ordered.specs.Either.{roomed_as}
use Rattle.mesh_stretch.proofs.walk_block.Goals as goal

pub slice_bounds-walk_ready-end-2 : goal.slice_bounds-walk_ready-end-2
slice_bounds-walk_ready-end-2 c = sym (length-take-le _ _ c.requires.orders_roomed.1)

pub walk_ready-requires : goal.walk_ready-requires
walk_ready-requires c = record { forest = c.requires.forest; orders_roomed = (roomed_as c.requires.orders_roomed.0 (length-take-le _ _ c.requires.orders_roomed.1), c.requires.orders_roomed.2) }

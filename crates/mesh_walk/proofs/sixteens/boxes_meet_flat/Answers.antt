-- `boxes_meet_flat`: axis by axis.
use mathlib.Core.Bool.{◌&&◌}
use Rattle.mesh_walk.proofs.sixteens.boxes_meet_flat.Goals as goal

pub returns : goal.returns
returns c =
    let x = c.spans_meet-x.ensures in
    let y = c.spans_meet-y.ensures in
    let z = c.spans_meet-z.ensures in
    λ t. x t && y t && z t

-- `is_met`: the place, and the boxes.
use mathlib.Core.Bool.{Bool, ◌&&◌}
use mathlib.Core.Path.{ap}
use lib.Dec.{leb}
use Rattle.mesh_runs.proofs.is_met.Goals as goal

pub returns : goal.returns
returns c =
    let a = c.args in
    ap (λ (b : Bool). leb a.from a.j && b) c.boxes_meet-met.ensures

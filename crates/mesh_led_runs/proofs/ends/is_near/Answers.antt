-- `is_near`: the row's first vertex has a box.
use native.Mathlib.Omega.{arith}
use Rattle.mesh_led_runs.proofs.ends.is_near.Goals as goal

pub vertex_of-requires : goal.vertex_of-requires
vertex_of-requires c = (c.requires.1.edge, omega arith)

pub apart-requires : goal.apart-requires
apart-requires c =
    let pre = c.requires in
    (pre.0, omega (arith, pre.1.inside 0 (omega arith), c.vertex_of.ensures))

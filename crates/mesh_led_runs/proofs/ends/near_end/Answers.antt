use native.Mathlib.Omega.{arith}
use Rattle.mesh_led_runs.proofs.ends.near_end.Goals as goal

pub is_near-requires : goal.is_near-requires
is_near-requires c =
    let start = c in
    let pre = start.requires in
    let last = c.run_end-last.ensures in
    (omega (arith, c.vertex_of-v.ensures, (pre.2 start.args.first pre.0).inside 0 (omega arith)), pre.2 _ (omega (arith, c.loop-i-test.true, last.1)))

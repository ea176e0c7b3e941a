-- `near_share`: no more nodes are looked at than there are, so that the sum of their extents fits.
use Prim.Native.Nat.{◌*◌, ◌≤◌}
use Rattle.mesh_led_runs.proofs.ends.near_share.Given as goal

abbrev pub invariant-loop-k : goal.invariant-loop-k
invariant-loop-k l = record {
  passed : l.looked ≤ l.k;
  there : l.looked ≤ l.nodes;
  small : l.sum ≤ 12884901888 * l.looked;
}

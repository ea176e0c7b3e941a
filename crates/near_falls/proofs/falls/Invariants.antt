-- `falls`: no more have moved off than vertices were passed.
use Prim.Native.Nat.{◌≤◌}
use Rattle.near_falls.proofs.falls.Given as goal

abbrev pub invariant-loop-v : goal.invariant-loop-v
invariant-loop-v l = l.found ≤ l.v

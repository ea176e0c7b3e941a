-- `passed`: so many numbers after so many.
use Prim.Native.Nat.{◌-◌}
use native.Mathlib.Omega.{arith}
use lib.ListN.{length}
use Rattle.stored_mend.specs.Mending.{Passed, none_passed, passed_on, missing_passed}
use Rattle.stored_mend.proofs.passed.Given as goal

abbrev pub invariant-loop-at : goal.invariant-loop-at
invariant-loop-at l = Passed l.list l.from l.v l.at

abbrev pub decreases-loop-at : goal.decreases-loop-at
decreases-loop-at l = length l.list - l.at

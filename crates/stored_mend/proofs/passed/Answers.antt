use Prim.Native.Nat.{◌-◌}
use native.Mathlib.Omega.{arith}
use lib.ListN.{length}
use Rattle.stored_mend.specs.Mending.{Passed, none_passed, passed_on, missing_passed}
use Rattle.stored_mend.proofs.passed.Goals as goal

pub loop-at-init : goal.loop-at-init
loop-at-init c = none_passed _ _ _ c.requires.0

pub missing-requires : goal.missing-requires
missing-requires c = (c.loop-at.invariant.inside, c.requires.1)

pub overflow_add-at : goal.overflow_add-at
overflow_add-at c = omega (arith, (c.missing.ensures c.loop-at-test.true).there)

pub loop-at-smaller : goal.loop-at-smaller
loop-at-smaller c = omega (arith, (c.missing.ensures c.loop-at-test.true).there, c.requires)

pub loop-at-preserved : goal.loop-at-preserved
loop-at-preserved c = passed_on c.loop-at.invariant (missing_passed (c.missing.ensures c.loop-at-test.true))

pub returns : goal.returns
returns c = c.loop-at.invariant

use native.Mathlib.Omega.{arith}
use Rattle.decimals.specs.Value.{digits_length_u64}
use Rattle.decimals.proofs.Put.{length_small, length_large}
use Rattle.decimals.proofs.digit_count.Goals as goal

pub loop-rest-init : goal.loop-rest-init
loop-rest-init c = omega arith

pub overflow_add-count : goal.overflow_add-count
overflow_add-count c = omega (arith, digits_length_u64 c.args.n c.ranges.n.fits)

pub loop-rest-smaller : goal.loop-rest-smaller
loop-rest-smaller c = omega arith

pub loop-rest-preserved : goal.loop-rest-preserved
loop-rest-preserved c = omega (arith, length_large c.loop-rest.rest c.loop-rest-test.true)

pub returns : goal.returns
returns c = omega (arith, length_small c.loop-rest.rest c.loop-rest-test.false)

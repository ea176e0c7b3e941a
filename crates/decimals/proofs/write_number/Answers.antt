use Rattle.decimals.proofs.Put.{put_starts, put_step, put_ends}
use Rattle.decimals.proofs.write_number.Goals as goal

pub loop-place-init : goal.loop-place-init
loop-place-init c = put_starts _ _ c.count_digits.ensures c.requires

pub loop-place-preserved : goal.loop-place-preserved
loop-place-preserved c = put_step c.loop-place.invariant c.loop-place-test.true

pub returns : goal.returns
returns c = put_ends c.loop-place.invariant c.count_digits.ensures c.loop-place-test.false

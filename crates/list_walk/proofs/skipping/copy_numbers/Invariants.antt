-- `skipping::copy_numbers`: the numbers passed stand in front.
use Rattle.list_walk.specs.Taking.{CopiedUpTo}
use Rattle.list_walk.proofs.skipping.copy_numbers.Given as goal

abbrev pub invariant-loop-k : goal.invariant-loop-k
invariant-loop-k l = CopiedUpTo l.from l.k l.initial.to l.to

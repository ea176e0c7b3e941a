-- `accepted::copy_front`: the entries passed stand in front.
use Rattle.list_pairs.specs.Own.{Copying}
use Rattle.list_pairs.proofs.accepted.copy_front.Given as goal

abbrev pub invariant-loop-k : goal.invariant-loop-k
invariant-loop-k l = Copying l.own l.initial.list l.count l.list l.k

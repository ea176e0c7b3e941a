-- `missing`: every number is tried in turn, and none of those passed is v unless one was found.
use Rattle.stored_mend.specs.Mending.{NoneBelow}
use Rattle.stored_mend.proofs.missing.Given as goal

abbrev pub invariant-loop-k : goal.invariant-loop-k
invariant-loop-k l = NoneBelow l.list l.from l.k l.v l.found

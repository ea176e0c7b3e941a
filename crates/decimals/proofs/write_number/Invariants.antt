-- `decimals::write_number` meets its contract. The loop's invariant: from the place on that it has come down to, the digits stand.
use Rattle.decimals.proofs.Put.{Putting}
use Rattle.decimals.proofs.write_number.Given as goal

abbrev pub invariant-loop-place : goal.invariant-loop-place
invariant-loop-place l = Putting l.initial.out l.at l.n l.out l.place l.rest

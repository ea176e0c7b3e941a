-- `obj_numbers::place_of` meets its contract: the byte is not among those that the loop has passed.
use Rattle.obj_numbers.specs.Finding.{Finding}
use Rattle.obj_numbers.proofs.place_of.Given as goal

abbrev pub invariant-loop-k : goal.invariant-loop-k
invariant-loop-k l = Finding l.byte l.s l.k

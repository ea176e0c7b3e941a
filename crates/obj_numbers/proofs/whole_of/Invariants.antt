-- `obj_numbers::whole_of` meets its contract: what is read, with the digits that are left, is worth what all are.
use Rattle.obj_numbers.specs.Worth.{Reading}
use Rattle.obj_numbers.proofs.whole_of.Given as goal

abbrev pub invariant-loop-byte : goal.invariant-loop-byte
invariant-loop-byte l = Reading l.s l.worth l.byte-index

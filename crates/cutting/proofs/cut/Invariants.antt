-- What is cut and the rest, with the digits left still to come, are 2^20 times the part.
use Rattle.std.proofs.Common.{◌-◌}
use Rattle.cutting.specs.Steps.{Cutting}
use Rattle.cutting.proofs.cut.Given as goal

abbrev pub invariant-loop : goal.invariant-loop
invariant-loop l = Cutting l.part l.whole l.number l.rest (10 - l.counter)

-- The numbers before the index are counted from the last, the others are as they were.
use Rattle.turning.specs.Renumbering.{Renumbering}
use Rattle.turning.proofs.renumber.Given as goal

abbrev pub invariant-loop-number : goal.invariant-loop-number
invariant-loop-number l = Renumbering l.count l.initial.numbers l.numbers l.number-index

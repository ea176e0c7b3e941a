-- The places before i, and those that they come from, hold what they are to hold.
use Rattle.turning.specs.Exchanging.{Exchanging}
use Rattle.turning.proofs.turn_positions.Given as goal

abbrev pub invariant-loop-i : goal.invariant-loop-i
invariant-loop-i l = Exchanging l.count l.initial.positions l.positions l.i

-- `decimals::run_from` meets its contract. The loop's invariant: what is read, with the run that is left, is the run from the start.
use Rattle.std.proofs.Common.{◌-◌}
use Rattle.decimals.proofs.Scan.{Scanning}
use Rattle.decimals.proofs.run_from.Given as goal

abbrev pub invariant-loop : goal.invariant-loop
invariant-loop l = Scanning l.bytes l.at l.limit l.worth l.next (l.limit - l.counter)

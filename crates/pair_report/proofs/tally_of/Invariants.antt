use Rattle.pair_report.specs.Rendered.{verdicts_in}
use Rattle.tally.specs.Counted.{TallyOf}
use Rattle.pair_report.proofs.tally_of.Given as goal

abbrev pub invariant-loop-k : goal.invariant-loop-k
invariant-loop-k l = TallyOf (verdicts_in l.verdicts 0 l.k) l.tally

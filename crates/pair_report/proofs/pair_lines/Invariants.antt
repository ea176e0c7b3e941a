use Prim.Native.Nat.{◌*◌, ◌≤◌}
use Rattle.sequences.specs.Gather.{gather}
use Rattle.sequences.specs.Writing.{Writing}
use Rattle.pair_report.specs.Rendered.{line_at}
use Rattle.pair_report.proofs.pair_lines.Given as goal

abbrev pub invariant-loop-k : goal.invariant-loop-k
invariant-loop-k l = (l.next ≤ 21 * l.k) × Writing l.initial.out (gather (line_at l.list l.verdicts) 0 l.count) l.out l.next (gather (line_at l.list l.verdicts) l.k l.count)

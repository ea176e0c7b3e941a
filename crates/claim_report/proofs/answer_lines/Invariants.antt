-- What stands in the buffer, with the lines that are still to come, is what is wanted.
use Prim.Native.Nat.{◌*◌, ◌≤◌}
use Rattle.sequences.specs.Gather.{gather}
use Rattle.sequences.specs.Writing.{Writing}
use Rattle.claim_report.specs.Printed.{line_at}
use Rattle.claim_report.proofs.answer_lines.Given as goal

abbrev pub invariant-loop-k : goal.invariant-loop-k
invariant-loop-k l = (l.next ≤ 4 * l.k) × Writing l.initial.out (gather (line_at l.answers) 0 l.count) l.out l.next (gather (line_at l.answers) l.k l.count)

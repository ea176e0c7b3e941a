-- A line for each entry, one behind the other: what is written is the lines of those that were passed.
use Prim.Native.Nat.{◌*◌, ◌≤◌}
use lib.ListN.{take}
use Rattle.sequences.specs.Wrote.{Wrote}
use Rattle.series_report.specs.Lines.{lines_of}
use Rattle.series_report.proofs.log_lines.Given as goal

abbrev pub invariant-loop-k : goal.invariant-loop-k
invariant-loop-k l = (l.next ≤ 70 * l.k) × Wrote l.initial.out 0 (lines_of (take l.k l.log.hits)) l.out l.next

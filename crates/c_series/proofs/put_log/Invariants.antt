-- `put_log`: the rows of the entries that were passed are written.
use Prim.Native.Nat.{◌*◌}
use lib.ListN.{take}
use Rattle.sequences.specs.Wrote.{Wrote}
use Rattle.meaning.specs.SeriesNumbers.{rows_of}
use Rattle.c_series.proofs.put_log.Given as goal

abbrev pub invariant-loop-k : goal.invariant-loop-k
invariant-loop-k l = Wrote l.initial.rows 0 (rows_of (take l.k l.log.hits)) l.rows (2 * l.k)

-- `words::put_word`: the bytes passed are written, those behind them are left.
use Prim.Native.Nat.{◌+◌}
use mathlib.Core.List.{◌++◌}
use lib.ListN.{take, drop}
use Rattle.sequences.specs.Writing.{Writing}
use Rattle.report_words.proofs.words.put_word.Given as goal

abbrev pub invariant-loop-i : goal.invariant-loop-i
invariant-loop-i l = Writing l.initial.out (take l.at l.initial.out ++ l.word) l.out (l.at + l.i) (drop l.i l.word)

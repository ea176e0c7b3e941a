-- `put_pairs`: part by part; what stands in the buffer, with the lines of the parts left, is the lines of all.
use Prim.Native.Nat.{◌*◌}
use mathlib.Core.List.{◌++◌}
use lib.ListN.{take, drop}
use Rattle.sequences.specs.Writing.{Writing}
use Rattle.saved_scene.specs.Rows.{pair_lines}
use Rattle.saved_scene.proofs.rows.put_pairs.Given as goal

abbrev pub invariant-loop-k : goal.invariant-loop-k
invariant-loop-k l = Writing l.initial.out (take l.at l.initial.out ++ pair_lines l.letter l.list) l.out l.next (pair_lines l.letter (drop (2 * l.k) l.list))

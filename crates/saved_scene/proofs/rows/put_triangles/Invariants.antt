-- `put_triangles`: triangle by triangle; what stands in the buffer, with the lines of the triangles left, is the lines of all.
use Prim.Native.Nat.{◌*◌}
use mathlib.Core.List.{◌++◌}
use lib.ListN.{take, drop}
use Rattle.sequences.specs.Writing.{Writing}
use Rattle.saved_scene.specs.Rows.{triple_lines}
use Rattle.saved_scene.proofs.rows.put_triangles.Given as goal

abbrev pub invariant-loop-k : goal.invariant-loop-k
invariant-loop-k l = Writing l.initial.out (take l.at l.initial.out ++ triple_lines l.list) l.out l.next (triple_lines (drop (3 * l.k) l.list))

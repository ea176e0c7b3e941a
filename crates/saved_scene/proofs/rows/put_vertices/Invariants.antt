-- `put_vertices`: vertex by vertex; what stands in the buffer, with the lines of the vertices left, is the lines of all.
use Prim.Native.Nat.{◌*◌}
use mathlib.Core.List.{◌++◌}
use lib.ListN.{take, drop}
use Rattle.sequences.specs.Writing.{Writing}
use Rattle.saved_scene.specs.Rows.{vertex_lines}
use Rattle.saved_scene.proofs.rows.put_vertices.Given as goal

abbrev pub invariant-loop-k : goal.invariant-loop-k
invariant-loop-k l = Writing l.initial.out (take l.at l.initial.out ++ vertex_lines l.positions) l.out l.next (vertex_lines (drop (6 * l.k) l.positions))

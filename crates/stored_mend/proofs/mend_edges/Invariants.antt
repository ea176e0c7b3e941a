-- `mend_edges`: the edges passed are mended.
use borrow.Author.Rules.{rules}
use native.Mathlib.Omega.{arith}
use Prim.Native.Nat.{◌+◌, ◌-◌, ◌≤◌}
use mathlib.Core.List.{[]}
use mathlib.Core.Path.{◌≡◌}
use lib.ListN.{length}
use Rattle.meaning.specs.Scene.{scene_of, vertex_count, edge_count, triangle_count}
use Rattle.meaning.specs.StoredBoxes.{edge_box, triangle_box}
use Rattle.meaning.specs.Dragging.{edge_has, triangle_has}
use Rattle.stored_mend.specs.Mending.{work_numbers, Mended, mended_none, mended_more, mended_skipped, mended_all}
use Rattle.stored_mend.proofs.mend_edges.Given as goal

abbrev pub invariant-loop-j : goal.invariant-loop-j
invariant-loop-j l =
    (l.j ≤ l.count) × (length l.own ≡ work_numbers)
    × Mended l.initial.boxes (vertex_count (scene_of l.positions l.edges l.triangles [])) l.j (edge_has (scene_of l.positions l.edges l.triangles []) l.v) (edge_box (scene_of l.positions l.edges l.triangles [])) l.boxes

abbrev pub decreases-loop-j : goal.decreases-loop-j
decreases-loop-j l = l.count - l.j

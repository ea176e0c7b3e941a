use borrow.Author.Rules.{rules}
use native.Mathlib.Omega.{arith}
use Prim.Native.Nat.{◌+◌, ◌-◌, ◌≤◌}
use mathlib.Core.List.{[]}
use mathlib.Core.Path.{◌≡◌}
use lib.ListN.{length}
use Rattle.meaning.specs.Scene.{scene_of, vertex_count, edge_count, triangle_count}
use Rattle.meaning.specs.StoredBoxes.{edge_box, triangle_box}
use Rattle.meaning.specs.Dragging.{edge_has, triangle_has}
use Rattle.stored_mend.specs.Mending.{work_numbers, Mended, mended_none, mended_more, mended_skipped, mended_all}
use Rattle.stored_mend.proofs.mend_triangles.Goals as goal

pub loop-j-init : goal.loop-j-init
loop-j-init c =
    let gone = c.next_triangle-j.ensures in
    (omega (arith, gone.inside, c.triangle_count-count.ensures), c.requires.0.long, mended_skipped (mended_none _ _ _ _) gone)

pub mend_triangle-requires : goal.mend_triangle-requires
mend_triangle-requires c =
    let start = c in
    let inv = c.loop-j.invariant in
    (record { drawn = start.requires.0.drawn; long = inv.1; room = omega (arith, start.requires.0.room, inv.2.behind.same) }, omega (arith, c.triangle_count-count.ensures, c.loop-j-test.true))

pub loop-j-smaller : goal.loop-j-smaller
loop-j-smaller c = omega (arith, c.next_triangle-j-in-loop-j.ensures.onward, c.loop-j-test.true)

pub loop-j-preserved : goal.loop-j-preserved
loop-j-preserved c =
    let gone = c.next_triangle-j-in-loop-j.ensures in
    let inv = c.loop-j.invariant in
    let done = c.mend_triangle.ensures in
    (omega (arith, gone.inside, c.triangle_count-count.ensures), done.1, mended_skipped (mended_more inv.2 done.0) gone)

pub shape_of-own : goal.shape_of-own
shape_of-own c = omega (arith, c.loop-j.invariant.1, c.requires.0.long)

pub shape_of-boxes : goal.shape_of-boxes
shape_of-boxes c = c.loop-j.invariant.2.behind.same

pub returns : goal.returns
returns c = mended_all (omega arith) c.loop-j.invariant.2

pub next_triangle-j-requires : goal.next_triangle-j-requires
next_triangle-j-requires c = (omega arith, c.requires.1)

pub overflow_add-j : goal.overflow_add-j
overflow_add-j c = omega arith

pub next_triangle-j-requires-in-loop-j : goal.next_triangle-j-requires-in-loop-j
next_triangle-j-requires-in-loop-j c = (omega (arith, c.triangle_count-count.ensures, c.loop-j-test.true), c.requires.1)

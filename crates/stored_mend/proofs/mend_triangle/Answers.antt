-- `mend_triangle`: worked out and copied, or left.
use borrow.Author.Rules.{rules}
use native.Mathlib.Omega.{arith}
use Prim.Native.Nat.{ℕ, ◌+◌, ◌*◌, ◌<◌}
use mathlib.Core.List.{[]}
use mathlib.Core.Path.{◌≡◌, ◌∙◌, ap, refl}
use Rattle.meaning.specs.Scene.{scene_of, vertex_count, edge_count, triangle_count, edge_end, corner}
use Rattle.meaning.specs.StoredBoxes.{vertex_box, edge_box, triangle_box, edge_place, triangle_place}
use Rattle.list_boxes.specs.Kept.{joint_box}
use Rattle.scene_checks.specs.Facts.{known_inside, edge_inside, triangle_inside}
use Rattle.stored_mend.specs.Mending.{stored_if, left_if}
use Rattle.stored_mend.proofs.mend_triangle.Goals as goal

pub work_three-requires : goal.work_three-requires
work_three-requires c =
    let start = c in
    let s = scene_of start.args.positions.now start.args.edges.now start.args.triangles.now [] in
    let j = start.args.j in
    let known = known_inside (vertex_count s) s.triangles start.requires.0.drawn.1 in
    let one = known (3 * j + 0) (triangle_inside s j 0 start.requires.1 (omega arith)) in
    let two = known (3 * j + 1) (triangle_inside s j 1 start.requires.1 (omega arith)) in
    let three = known (3 * j + 2) (triangle_inside s j 2 start.requires.1 (omega arith)) in
    (rw c.corner.ensures one, rw c.corner-then-triangle_has.ensures two, rw c.corner-then-triangle_has-2.ensures three, start.requires.0.long)

pub copy_box-requires : goal.copy_box-requires
copy_box-requires c =
    let start = c in
    (c.work_three.ensures.same, omega (arith, c.vertex_count.ensures, c.edge_count.ensures, start.requires.1, start.requires.0.drawn.2, start.requires.0.room))

pub returns-then-triangle_has : goal.returns-then-triangle_has
returns-then-triangle_has c =
    let start = c in
    let s = scene_of start.args.positions.now start.args.edges.now start.args.triangles.now [] in
    let j = start.args.j in
    let worked = c.work_three.ensures in
    let one = ap (vertex_box s) c.corner.ensures in
    let two = ap (vertex_box s) c.corner-then-triangle_has.ensures in
    let three = ap (vertex_box s) c.corner-then-triangle_has-2.ensures in
    let v = c.vertex_count.ensures in
    let e = c.edge_count.ensures in
    (stored_if c.triangle_has.ensures c.if-triangle_has.true (λ t. v t + e t + j) (worked.here ∙ λ t. joint_box (joint_box (one t) (two t)) (three t)) c.copy_box.ensures, worked.same)

pub returns-else-triangle_has : goal.returns-else-triangle_has
returns-else-triangle_has c =
    let start = c in
    let s = scene_of start.args.positions.now start.args.edges.now start.args.triangles.now [] in
    (left_if start.args.boxes.now (triangle_place s start.args.j) (triangle_box s start.args.j) c.triangle_has.ensures c.if-triangle_has.false, start.requires.0.long)

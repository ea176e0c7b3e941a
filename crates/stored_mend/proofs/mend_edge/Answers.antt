-- `mend_edge`: worked out and copied, or left.
use borrow.Author.Rules.{rules}
use native.Mathlib.Omega.{arith}
use Prim.Native.Nat.{ℕ, ◌+◌, ◌*◌, ◌<◌}
use mathlib.Core.List.{[]}
use mathlib.Core.Path.{◌≡◌, ◌∙◌, ap, refl}
use Rattle.meaning.specs.Scene.{scene_of, vertex_count, edge_count, triangle_count, edge_end, corner}
use Rattle.meaning.specs.StoredBoxes.{vertex_box, edge_box, triangle_box, edge_place, triangle_place}
use Rattle.list_boxes.specs.Kept.{joint_box}
use Rattle.scene_checks.specs.Facts.{known_inside, edge_inside, triangle_inside}
use Rattle.stored_mend.specs.Mending.{stored_if, left_if}
use Rattle.stored_mend.proofs.mend_edge.Goals as goal

pub work_two-requires : goal.work_two-requires
work_two-requires c =
    let start = c in
    let s = scene_of start.args.positions.now start.args.edges.now start.args.triangles.now [] in
    let j = start.args.j in
    let one = known_inside (vertex_count s) s.edges start.requires.0.drawn.0 (2 * j + 0) (edge_inside s j 0 start.requires.1 (omega arith)) in
    let two = known_inside (vertex_count s) s.edges start.requires.0.drawn.0 (2 * j + 1) (edge_inside s j 1 start.requires.1 (omega arith)) in
    (rw c.edge_end.ensures one, rw c.edge_end-then-edge_has.ensures two, start.requires.0.long)

pub copy_box-requires : goal.copy_box-requires
copy_box-requires c =
    let start = c in
    (c.work_two.ensures.same, omega (arith, c.vertex_count.ensures, start.requires.1, start.requires.0.drawn.2, start.requires.0.room))

pub returns-then-edge_has : goal.returns-then-edge_has
returns-then-edge_has c =
    let start = c in
    let s = scene_of start.args.positions.now start.args.edges.now start.args.triangles.now [] in
    let j = start.args.j in
    let worked = c.work_two.ensures in
    let one = ap (vertex_box s) c.edge_end.ensures in
    let two = ap (vertex_box s) c.edge_end-then-edge_has.ensures in
    (stored_if c.edge_has.ensures c.if-edge_has.true (ap (λ (n : ℕ). n + j) c.vertex_count.ensures) (worked.here ∙ λ t. joint_box (one t) (two t)) c.copy_box.ensures, worked.same)

pub returns-else-edge_has : goal.returns-else-edge_has
returns-else-edge_has c =
    let start = c in
    let s = scene_of start.args.positions.now start.args.edges.now start.args.triangles.now [] in
    (left_if start.args.boxes.now (edge_place s start.args.j) (edge_box s start.args.j) c.edge_has.ensures c.if-edge_has.false, start.requires.0.long)

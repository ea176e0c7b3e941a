-- `store_triangle`: the corners are vertices, whose boxes stand in front.
use borrow.Author.Rules.{rules}
use native.Mathlib.Omega.{arith}
use Prim.Native.Nat.{◌<◌}
use mathlib.Core.List.{[]}
use Rattle.meaning.specs.Scene.{scene_of, triangle_count}
use Rattle.mesh_boxes.specs.Led.{part_of, led_inside, part_inside}
use Rattle.mesh_boxes.specs.Joining.{corner_inside, triangle_joined}
use Rattle.mesh_boxes.proofs.store_triangle.Goals as goal

pub part_at-j-requires : goal.part_at-j-requires
part_at-j-requires c = let start = c in λ some. led_inside start.requires.k_bound.1 start.args.k start.requires.k_bound.0 some

pub corner-third-requires : goal.corner-third-requires
corner-third-requires c =
    let start = c in
    omega (arith, part_inside start.requires.k_bound.1 start.args.k start.requires.k_bound.0, c.part_at-j.ensures)

pub corner-requires : goal.corner-requires
corner-requires c =
    let start = c in
    omega (arith, part_inside start.requires.k_bound.1 start.args.k start.requires.k_bound.0, c.part_at-j.ensures)

pub corner-requires-2 : goal.corner-requires-2
corner-requires-2 c =
    let start = c in
    omega (arith, part_inside start.requires.k_bound.1 start.args.k start.requires.k_bound.0, c.part_at-j.ensures)

pub store_joint_box-requires : goal.store_joint_box-requires
store_joint_box-requires c =
    let start = c in
    let s = scene_of start.args.positions.now start.args.edges.now start.args.triangles.now [] in
    let j = c.part_at-j.result in
    let there : j < triangle_count s = omega (arith, part_inside start.requires.k_bound.1 start.args.k start.requires.k_bound.0, c.part_at-j.ensures) in
    let known = corner_inside s start.requires.joinable.known j there in
    omega (arith, known 0 (omega arith), known 1 (omega arith), start.requires.joinable)

pub store_joint_box-requires-2 : goal.store_joint_box-requires-2
store_joint_box-requires-2 c =
    let start = c in
    let s = scene_of start.args.positions.now start.args.edges.now start.args.triangles.now [] in
    let j = c.part_at-j.result in
    let there : j < triangle_count s = omega (arith, part_inside start.requires.k_bound.1 start.args.k start.requires.k_bound.0, c.part_at-j.ensures) in
    let known = corner_inside s start.requires.joinable.known j there in
    omega (arith, c.corner-third.ensures, c.store_joint_box.auto.boxes, start.requires.joinable, known 2 (omega arith))

pub returns : goal.returns
returns c =
    let start = c in
    let led = c.part_at-j.ensures in
    triangle_joined {s = scene_of start.args.positions.now start.args.edges.now start.args.triangles.now []} start.requires.joinable (part_of start.args.order.now start.args.k) (part_inside start.requires.k_bound.1 start.args.k start.requires.k_bound.0)
    (omega (arith, c.edge_count.ensures, c.vertex_count.ensures))
    (rw led at c.corner.ensures)
    (rw led at c.corner-2.ensures)
    (rw led at c.corner-third.ensures)
    c.store_joint_box.ensures
    c.store_joint_box-2.ensures

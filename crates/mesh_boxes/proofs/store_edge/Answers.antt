-- `store_edge`: the ends are vertices, whose boxes stand in front.
use borrow.Author.Rules.{rules}
use native.Mathlib.Omega.{arith}
use Prim.Native.Nat.{◌<◌}
use mathlib.Core.List.{[]}
use Rattle.meaning.specs.Scene.{scene_of, edge_count}
use Rattle.mesh_boxes.specs.Led.{part_of, led_inside, part_inside}
use Rattle.mesh_boxes.specs.Joining.{end_inside, edge_joined}
use Rattle.mesh_boxes.proofs.store_edge.Goals as goal

pub part_at-j-requires : goal.part_at-j-requires
part_at-j-requires c = let start = c in λ some. led_inside start.requires.k_bound.1 start.args.k start.requires.k_bound.0 some

pub edge_end-requires : goal.edge_end-requires
edge_end-requires c =
    let start = c in
    omega (arith, part_inside start.requires.k_bound.1 start.args.k start.requires.k_bound.0, c.part_at-j.ensures)

pub edge_end-requires-2 : goal.edge_end-requires-2
edge_end-requires-2 c =
    let start = c in
    omega (arith, part_inside start.requires.k_bound.1 start.args.k start.requires.k_bound.0, c.part_at-j.ensures)

pub store_joint_box-requires : goal.store_joint_box-requires
store_joint_box-requires c =
    let start = c in
    let s = scene_of start.args.positions.now start.args.edges.now [] [] in
    let j = c.part_at-j.result in
    let there : j < edge_count s = omega (arith, part_inside start.requires.k_bound.1 start.args.k start.requires.k_bound.0, c.part_at-j.ensures) in
    let known = end_inside s start.requires.joinable.known j there in
    omega (arith, known 0 (omega arith), known 1 (omega arith), start.requires.joinable)

pub returns : goal.returns
returns c =
    let start = c in
    let led = c.part_at-j.ensures in
    edge_joined (scene_of start.args.positions.now start.args.edges.now [] []) _ _ (part_of start.args.order.now start.args.k)
    (omega (arith, c.vertex_count.ensures))
    (rw led at c.edge_end.ensures)
    (rw led at c.edge_end-2.ensures)
    c.store_joint_box.ensures

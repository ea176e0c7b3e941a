-- `join_parts`: ends and corners are vertices, and what was joined first is kept.
use borrow.Author.Rules.{rules}
use native.Mathlib.Omega.{arith}
use Rattle.meaning.specs.Scene.{scene_of}
use Rattle.mesh_boxes.specs.Joining.{joined_parts}
use Rattle.mesh_boxes.proofs.join_parts.Goals as goal

pub join_edges-requires : goal.join_edges-requires
join_edges-requires c = let pre = c.requires in record { edges_value = (pre.0.ends, pre.1); edges_in_bounds = omega (arith, pre.0.room) }

pub join_triangles-requires : goal.join_triangles-requires
join_triangles-requires c = let pre = c.requires in record { triangles_value = (pre.0.corners, pre.2); triangles_in_bounds = omega (arith, pre.0.room, c.join_edges.ensures.2.same) }

pub returns : goal.returns
returns c =
    λ w.
    let start = c in
    let a = start.args in
    let edges = c.join_edges.ensures in
    let triangles = c.join_triangles.ensures in
    let can = start.requires.0 in
    joined_parts (scene_of a.positions.now a.edges.now a.triangles.now w) (record { ends = can.ends; corners = can.corners; room = can.room })
    start.requires.2
    edges.0 edges.1 edges.2 triangles.0 triangles.1 triangles.2

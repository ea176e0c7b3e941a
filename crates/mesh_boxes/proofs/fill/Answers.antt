-- `fill`: edges and triangles are joined from swept boxes of the vertices.
use borrow.Author.Rules.{rules}
use native.Mathlib.Omega.{arith}
use Rattle.meaning.specs.Scene.{scene_of}
use Rattle.mesh_boxes.specs.Joining.{filled_by}
use Rattle.mesh_boxes.proofs.fill.Goals as goal

pub fill_vertices-requires : goal.fill_vertices-requires
fill_vertices-requires c = omega (arith, c.requires.0.room)

pub join_parts-requires : goal.join_parts-requires
join_parts-requires c =
    let pre = c.requires in
    let can = pre.0 in
    (record { ends = can.ends; corners = can.corners; room = omega (arith, can.room, c.fill_vertices.ensures.1.same) }, pre.1, pre.2)

pub returns : goal.returns
returns c =
    λ w.
    let start = c in
    let a = start.args in
    let vertices = c.fill_vertices.ensures in
    let can = start.requires.0 in
    filled_by {s = scene_of a.positions.now a.edges.now a.triangles.now w}
    (record { ends = can.ends; corners = can.corners; room = can.room }) start.requires.1 start.requires.2
    vertices.0 vertices.1 (c.join_parts.ensures w)

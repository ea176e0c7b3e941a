-- `fill_at`: edges and triangles are joined from the vertices' boxes at that time, by no order.
use borrow.Author.Rules.{rules}
use native.Mathlib.Omega.{arith}
use mathlib.Core.Path.{refl}
use Rattle.meaning.specs.Scene.{scene_of}
use Rattle.mesh_boxes.specs.Led.{none_lent}
use Rattle.mesh_boxes.specs.Joining.{filled_by, filled_as}
use Rattle.frame_boxes.specs.Spots.{spots_alone}
use Rattle.frame_boxes.proofs.fill_at.Goals as goal

pub fill_vertices_at-requires : goal.fill_vertices_at-requires
fill_vertices_at-requires c = let start = c in (start.requires.few_vertices, omega (arith, start.requires.drawable.room))

pub join_parts-requires : goal.join_parts-requires
join_parts-requires c =
    let can = c.requires.drawable in (
      record { ends = can.ends; corners = can.corners; room = omega (arith, can.room, c.fill_vertices_at.ensures.1.same) },
      none_lent _ _ refl,
      none_lent _ _ refl,
    )

pub returns : goal.returns
returns c =
    λ w.
    let start = c in
    let a = start.args in
    let vertices = c.fill_vertices_at.ensures in
    let can = start.requires.drawable in
    let s = scene_of a.positions.now a.edges.now a.triangles.now w in
    filled_as _ _ refl refl
    (filled_by {s = s}
    (record { ends = can.ends; corners = can.corners; room = can.room }) (none_lent _ _ refl) (none_lent _ _ refl)
    (spots_alone a.frame s vertices.0) vertices.1 (c.join_parts.ensures w))

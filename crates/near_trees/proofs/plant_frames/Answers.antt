-- `plant_frames`: what was planted of the end stands behind what is planted of the start.
use borrow.Author.Rules.{rules}
use native.Mathlib.Omega.{arith}
use mathlib.Core.List.{[]}
use mathlib.Core.Path.{◌≡◌, ◌∙◌}
use Rattle.meaning.specs.Scene.{scene_of}
use Rattle.near_trees.specs.Standing.{frames_done, plantable_still}
use Rattle.near_trees.proofs.plant_frames.Goals as goal

pub overflow_add-start-4 : goal.overflow_add-start-4
overflow_add-start-4 c =
    let start = c in
    let can = start.requires.0 in
    omega (arith, can.few_vertices, can.few_edges, can.few_triangles, c.node_room-shift.ensures, c.vertex_count.ensures, c.edge_count.ensures, c.triangle_count.ensures)

pub plant_frame-requires-2 : goal.plant_frame-requires-2
plant_frame-requires-2 c =
    let start = c in
    let same = (c.plant_frame.ensures []).kept.long in (
      plantable_still same start.requires.0,
      omega (arith, c.node_room-shift.ensures, c.vertex_count.ensures, c.edge_count.ensures, c.triangle_count.ensures),
      omega (arith, start.requires.1, same, c.node_room-shift.ensures, c.vertex_count.ensures, c.edge_count.ensures, c.triangle_count.ensures),
    )

pub returns : goal.returns
returns c =
    let start = c in
    let a = start.args in
    let last = c.plant_frame.ensures in
    let first = c.plant_frame-2.ensures in (
      λ w. frames_done (scene_of a.positions.now a.edges.now a.triangles.now w) (omega (arith, c.node_room-shift.ensures, c.vertex_count.ensures, c.edge_count.ensures, c.triangle_count.ensures)) c.node_room-shift.ensures start.requires.1 (last w) (first w),
      (first []).kept.long ∙ (last []).kept.long,
    )

-- `plant`: each tree has room behind what stands already, and stands where the counts say.
use borrow.Author.Rules.{rules}
use mathlib.Core.List.{[]}
use mathlib.Core.Path.{◌∙◌}
use Rattle.mesh_trees.specs.Planting.{last_fits, planting_done}
use Rattle.mesh_trees.proofs.plant.Goals as goal

pub grow-triangle_top-requires : goal.grow-triangle_top-requires
grow-triangle_top-requires c =
    let start = c in
    let (apart, few, room) =
    last_fits c.vertex_count-vertices.ensures c.edge_count-sides.ensures c.triangle_count-faces.ensures c.tree_room.ensures
    start.requires.plantable.0
    (c.grow-edge_top.ensures.nodes.same ∙ (c.fill.ensures []).kept.same) in
    (apart, few, room, start.requires.plantable.2)

pub returns : goal.returns
returns c =
    λ w.
    planting_done c.vertex_count-vertices.ensures c.edge_count-sides.ensures c.triangle_count-faces.ensures c.tree_room.ensures
    (c.fill.ensures w)
    c.grow-edge_top.ensures
    c.grow-triangle_top.ensures

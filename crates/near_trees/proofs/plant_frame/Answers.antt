-- `plant_frame`: the trees are grown over the boxes of that time.
use borrow.Author.Rules.{rules}
use Rattle.meaning.specs.Scene.{scene_of}
use Rattle.near_trees.specs.Frames.{frame_done}
use Rattle.near_trees.proofs.plant_frame.Goals as goal

pub returns : goal.returns
returns c =
    λ w.
    let start = c in
    let a = start.args in
    frame_done a.frame (scene_of a.positions.now a.edges.now a.triangles.now w)
    c.vertex_count-vertices.ensures
    c.edge_count-sides.ensures
    c.triangle_count-faces.ensures
    c.levels_room-room.ensures
    start.requires.1
    (c.fill_at.ensures w)
    c.grow.ensures
    c.grow-2.ensures

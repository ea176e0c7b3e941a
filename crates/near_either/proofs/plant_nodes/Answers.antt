-- `plant_nodes`: the nodes of both times stand there, or 0 tells that none do.
use borrow.Author.Rules.{rules}
use Rattle.near_either.specs.Ready.{nodes_planted, none_planted}
use Rattle.near_either.proofs.plant_nodes.Goals as goal

pub plant_frames-requires : goal.plant_frames-requires
plant_frames-requires c = (c.requires, (c.goes_near.ensures c.if-goes_near.true).room)

pub returns-then-goes_near : goal.returns-then-goes_near
returns-then-goes_near c =
    let goes = c.goes_near.ensures c.if-goes_near.true in
    let frames = c.plant_frames.ensures in
    (λ w. nodes_planted goes.near goes.no_edges goes.no_triangles (frames.0 w) c.node_room.ensures, frames.1)

pub returns-else-goes_near : goal.returns-else-goes_near
returns-else-goes_near c = (λ w. none_planted _ _ _ _ _, search rules)

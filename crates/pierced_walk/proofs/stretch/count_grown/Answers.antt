-- `count_grown`: a walk that enters none counts all.
use Rattle.scene_seams.specs.Alone.{tabled}
use Rattle.pierced_walk.specs.Stretching.{walked_count}
use Rattle.pierced_walk.proofs.stretch.count_grown.Goals as goal

pub returns : goal.returns
returns c =
    let a = c.args in
    walked_count a.frame (tabled a.positions.now a.edges.now a.triangles.now a.stands.now) a.first a.end c.walk_edges.ensures

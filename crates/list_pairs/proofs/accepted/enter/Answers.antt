-- `accepted::enter`: copied, or walked again.
use Rattle.scene_seams.specs.Alone.{tabled}
use Rattle.list_pairs.specs.Own.{walked_whole}
use Rattle.list_pairs.proofs.accepted.enter.Goals as goal

pub returns-else-count-own : goal.returns-else-count-own
returns-else-count-own c =
    let start = c in
    let a = start.args in
    let s = tabled a.positions.now a.edges.now a.triangles.now a.stands.now in
    walked_whole s c.walk_prepared.ensures.0 start.requires.1.counts start.requires.2

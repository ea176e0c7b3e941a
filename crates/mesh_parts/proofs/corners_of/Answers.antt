-- `corners_of`: each corner counts as itself where there are no seams, and is looked up where there are.
use borrow.Author.Rules.{rules}
use Rattle.scene_parts.specs.FromLists.{corners_sewn, corners_plain}
use Rattle.mesh_parts.proofs.corners_of.Goals as goal

pub returns-then-stands-eq0 : goal.returns-then-stands-eq0
returns-then-stands-eq0 c =
    let x = c.args in
    corners_plain x.triangles.now x.stands.now x.j c.corner-a.ensures c.corner-b.ensures c.corner-c.ensures
    c.if-stands-eq0.true c.rising-e.ensures c.among.ensures

pub returns-else-stands-eq0 : goal.returns-else-stands-eq0
returns-else-stands-eq0 c =
    let x = c.args in
    corners_sewn x.triangles.now x.stands.now x.j c.corner-a.ensures c.corner-b.ensures c.corner-c.ensures
    c.counts_as.ensures c.counts_as-else-stands-eq0.ensures c.counts_as-else-stands-eq0-2.ensures c.in_order.ensures

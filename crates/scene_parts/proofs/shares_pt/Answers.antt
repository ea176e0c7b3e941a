-- `shares_pt`: each vertex counts as itself where there are no seams, and is looked up where there are.
use borrow.Author.Rules.{rules}
use Rattle.scene_parts.specs.FromLists.{corner_shared, corner_shared_plain}
use Rattle.scene_parts.proofs.shares_pt.Goals as goal

pub returns-then-stands-eq0 : goal.returns-then-stands-eq0
returns-then-stands-eq0 c p e =
    let x = c.args in
    corner_shared_plain x.triangles.now x.stands.now x.j c.corner-a.ensures c.corner-b.ensures c.corner-c.ensures p e x.v
    c.if-stands-eq0.true c.one_of_three.ensures

pub returns-else-stands-eq0 : goal.returns-else-stands-eq0
returns-else-stands-eq0 c p e =
    let x = c.args in
    corner_shared x.triangles.now x.stands.now x.j c.corner-a.ensures c.corner-b.ensures c.corner-c.ensures p e x.v
    c.counts_as.ensures c.counts_as-else-stands-eq0.ensures c.counts_as-else-stands-eq0-2.ensures c.counts_as-else-stands-eq0-3.ensures c.one_of_three-else-stands-eq0.ensures

-- `ends_of`: each end counts as itself where there are no seams, and is looked up where there are.
use borrow.Author.Rules.{rules}
use Rattle.scene_parts.specs.FromLists.{ends_sewn, ends_plain}
use Rattle.mesh_parts.proofs.ends_of.Goals as goal

pub returns-then-stands-eq0 : goal.returns-then-stands-eq0
returns-then-stands-eq0 c =
    let x = c.args in
    ends_plain x.edges.now x.stands.now x.j c.edge_end-a.ensures c.edge_end-b.ensures
    c.if-stands-eq0.true c.rising.ensures

pub returns-else-stands-eq0 : goal.returns-else-stands-eq0
returns-else-stands-eq0 c =
    let x = c.args in
    ends_sewn x.edges.now x.stands.now x.j c.edge_end-a.ensures c.edge_end-b.ensures
    c.counts_as.ensures c.counts_as-else-stands-eq0.ensures c.rising-else-stands-eq0.ensures

-- `shares_ee`: each vertex counts as itself where there are no seams, and is looked up where there are.
use borrow.Author.Rules.{rules}
use Rattle.scene_parts.specs.FromLists.{end_shared, end_shared_plain}
use Rattle.scene_parts.proofs.shares_ee.Goals as goal

pub returns-then-stands-eq0 : goal.returns-then-stands-eq0
returns-then-stands-eq0 c p t =
    let x = c.args in
    end_shared_plain x.edges.now x.stands.now x.i x.j c.edge_end-a.ensures c.edge_end-b.ensures c.edge_end-c.ensures c.edge_end-d.ensures p t
    c.if-stands-eq0.true c.one_in_common.ensures

pub returns-else-stands-eq0 : goal.returns-else-stands-eq0
returns-else-stands-eq0 c p t =
    let x = c.args in
    end_shared x.edges.now x.stands.now x.i x.j c.edge_end-a.ensures c.edge_end-b.ensures c.edge_end-c.ensures c.edge_end-d.ensures p t
    c.counts_as.ensures c.counts_as-else-stands-eq0.ensures c.counts_as-else-stands-eq0-2.ensures c.counts_as-else-stands-eq0-3.ensures c.one_in_common-else-stands-eq0.ensures

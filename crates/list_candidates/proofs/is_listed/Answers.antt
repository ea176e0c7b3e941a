-- `is_listed`: by the kind.
use borrow.Author.Rules.{rules}
use Rattle.list_candidates.specs.Rows.{first_count, second_count}
use Rattle.list_candidates.proofs.is_listed.Goals as goal

pub listed_pt-requires : goal.listed_pt-requires
unfolding first_count second_count
listed_pt-requires c =
    let start = c in
    let kind = c.in-PointTriangle.is in
    (start.requires.0, rw kind at start.requires.1, rw kind at start.requires.2)

pub listed_ee-requires : goal.listed_ee-requires
unfolding first_count second_count
listed_ee-requires c =
    let start = c in
    let kind = c.in-EdgeEdge.is in
    (start.requires.0, rw kind at start.requires.1, rw kind at start.requires.2)

pub returns-in-PointTriangle : goal.returns-in-PointTriangle
returns-in-PointTriangle c = rw c.in-PointTriangle.is c.listed_pt.ensures

pub returns-in-EdgeEdge : goal.returns-in-EdgeEdge
returns-in-EdgeEdge c = rw c.in-EdgeEdge.is c.listed_ee.ensures

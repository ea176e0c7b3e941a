-- `listed_ee`: boxes first, and then the vertices.
use borrow.Author.Rules.{rules}
use native.Mathlib.Omega.{arith}
use Rattle.scene_seams.specs.Alone.{tabled}
use Rattle.meaning.specs.declared.Kind.TheVariants.{EdgeEdge}
use Rattle.list_candidates.specs.Meeting.{meets_ee, listed_unless, not_listed}
use Rattle.list_candidates.proofs.listed_ee.Goals as goal

pub returns-then-boxes_meet : goal.returns-then-boxes_meet
returns-then-boxes_meet c =
    let start = c in
    let a = start.args in
    let s = tabled a.positions.now a.edges.now a.triangles.now a.stands.now in
    listed_unless s EdgeEdge a.i a.j
    (meets_ee start.requires.0 a.i a.j c.boxes_meet.ensures (omega arith) (omega arith) start.requires.1 start.requires.2)
    c.if-boxes_meet.true
    (c.shares_ee.ensures a.positions.now a.triangles.now)

pub returns-else-boxes_meet : goal.returns-else-boxes_meet
returns-else-boxes_meet c =
    let start = c in
    let a = start.args in
    let s = tabled a.positions.now a.edges.now a.triangles.now a.stands.now in
    not_listed s EdgeEdge a.i a.j
    (meets_ee start.requires.0 a.i a.j c.boxes_meet.ensures (omega arith) (omega arith) start.requires.1 start.requires.2)
    c.if-boxes_meet.false

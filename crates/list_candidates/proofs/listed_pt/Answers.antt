-- `listed_pt`: boxes first, and then the vertices.
use borrow.Author.Rules.{rules}
use native.Mathlib.Omega.{arith}
use Rattle.scene_seams.specs.Alone.{tabled}
use Rattle.meaning.specs.declared.Kind.TheVariants.{PointTriangle}
use Rattle.list_candidates.specs.Meeting.{meets_pt, listed_unless, not_listed}
use Rattle.list_candidates.proofs.listed_pt.Goals as goal

pub returns-then-boxes_meet : goal.returns-then-boxes_meet
returns-then-boxes_meet c =
    let start = c in
    let a = start.args in
    let s = tabled a.positions.now a.edges.now a.triangles.now a.stands.now in
    listed_unless s PointTriangle a.v a.j
    (meets_pt start.requires.0 a.v a.j c.boxes_meet.ensures (omega arith) (omega arith) start.requires.1 start.requires.2)
    c.if-boxes_meet.true
    (c.shares_pt.ensures a.positions.now a.edges.now)

pub returns-else-boxes_meet : goal.returns-else-boxes_meet
returns-else-boxes_meet c =
    let start = c in
    let a = start.args in
    let s = tabled a.positions.now a.edges.now a.triangles.now a.stands.now in
    not_listed s PointTriangle a.v a.j
    (meets_pt start.requires.0 a.v a.j c.boxes_meet.ensures (omega arith) (omega arith) start.requires.1 start.requires.2)
    c.if-boxes_meet.false

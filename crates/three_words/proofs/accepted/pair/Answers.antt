use borrow.Author.Rules.{rules}
use mathlib.Core.Path.{sym}
use Rattle.scene_seams.specs.Alone.{tabled}
use Rattle.three_words.specs.Pairs.{ee_smaller_there, ee_larger_there, pt_ready, ee_ready}
use Rattle.scene_parts.specs.There.{pt_there}
use Rattle.scene_checks.specs.Facts.{accepted_sound}
use Rattle.three_words.proofs.accepted.pair.Goals as goal

-- src/accepted.rt:137:38
pub corners_of-requires : goal.corners_of-requires
corners_of-requires c =
    let a = c.args in
    (pt_there (tabled a.positions.now a.edges.now a.triangles.now a.stands.now) a.i a.j (rw c.in-PointTriangle.is at c.requires.1)).1

-- src/accepted.rt:137:13
pub point_pair-requires : goal.point_pair-requires
point_pair-requires c =
    let a = c.args in
    rw c.corners_of.ensures (pt_ready (tabled a.positions.now a.edges.now a.triangles.now a.stands.now) a.i a.j (accepted_sound c.requires.0) (rw c.in-PointTriangle.is at c.requires.1))

-- src/accepted.rt:140:17
pub ends_of-first-requires : goal.ends_of-first-requires
ends_of-first-requires c =
    let a = c.args in
    rw c.min.ensures (ee_smaller_there (tabled a.positions.now a.edges.now a.triangles.now a.stands.now) a.i a.j (rw c.in-EdgeEdge.is at c.requires.1))

-- src/accepted.rt:141:17
pub ends_of-second-requires : goal.ends_of-second-requires
ends_of-second-requires c =
    let a = c.args in
    rw c.max.ensures (ee_larger_there (tabled a.positions.now a.edges.now a.triangles.now a.stands.now) a.i a.j (rw c.in-EdgeEdge.is at c.requires.1))

-- src/accepted.rt:142:13
pub edges_pair-requires : goal.edges_pair-requires
edges_pair-requires c =
    let a = c.args in
    rw (c.ends_of-second.ensures, c.ends_of-first.ensures, c.max.ensures, c.min.ensures)
    (ee_ready (tabled a.positions.now a.edges.now a.triangles.now a.stands.now) a.i a.j (accepted_sound c.requires.0) (rw c.in-EdgeEdge.is at c.requires.1))

-- src/accepted.rt:124:1
pub returns-in-PointTriangle : goal.returns-in-PointTriangle
returns-in-PointTriangle c =
    let a = c.args in
    rw c.in-PointTriangle.is
    (c.point_pair.ensures a.edges.now a.triangles.now _ a.j (sym c.corners_of.ensures))

-- src/accepted.rt:124:1
pub returns-in-EdgeEdge : goal.returns-in-EdgeEdge
returns-in-EdgeEdge c =
    let a = c.args in
    rw c.in-EdgeEdge.is
    (c.edges_pair.ensures a.edges.now a.triangles.now _ a.i a.j
    (sym (rw c.min.ensures at c.ends_of-first.ensures))
    (sym (rw c.max.ensures at c.ends_of-second.ensures)))

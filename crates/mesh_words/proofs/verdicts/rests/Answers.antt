-- By kind: of the corners, or of the ends, that are there.
use borrow.Author.Rules.{rules}
use Rattle.meaning.specs.Scene.{Scene}
use Rattle.scene_seams.specs.Alone.{tabled}
use Rattle.three_words.specs.Pairs.{ee_smaller_there, ee_larger_there, pt_ready, ee_ready}
use Rattle.scene_parts.specs.There.{pt_there}
use Rattle.corner_rest.specs.Rests.{pt_rests, ee_rests}
use Rattle.mesh_words.proofs.verdicts.rests.Goals as goal

pub corners_of-requires : goal.corners_of-requires
corners_of-requires c =
    let a = c.args in
    (pt_there (tabled a.positions.now a.edges.now a.triangles.now a.stands.now) a.i a.j (rw c.in-PointTriangle.is at c.requires.1)).1

pub point_rests-requires : goal.point_rests-requires
point_rests-requires c =
    let a = c.args in
    let p = c.requires in
    rw c.corners_of.ensures (pt_ready (tabled a.positions.now a.edges.now a.triangles.now a.stands.now) a.i a.j p.0 (rw c.in-PointTriangle.is at p.1))

pub ends_of-first-requires : goal.ends_of-first-requires
ends_of-first-requires c =
    let a = c.args in
    rw c.min.ensures (ee_smaller_there (tabled a.positions.now a.edges.now a.triangles.now a.stands.now) a.i a.j (rw c.in-EdgeEdge.is at c.requires.1))

pub ends_of-second-requires : goal.ends_of-second-requires
ends_of-second-requires c =
    let a = c.args in
    rw c.max.ensures (ee_larger_there (tabled a.positions.now a.edges.now a.triangles.now a.stands.now) a.i a.j (rw c.in-EdgeEdge.is at c.requires.1))

pub edges_rest-requires : goal.edges_rest-requires
edges_rest-requires c =
    let a = c.args in
    let p = c.requires in
    rw (c.ends_of-second.ensures, c.ends_of-first.ensures, c.max.ensures, c.min.ensures)
    (ee_ready (tabled a.positions.now a.edges.now a.triangles.now a.stands.now) a.i a.j p.0 (rw c.in-EdgeEdge.is at p.1))

pub returns-in-PointTriangle : goal.returns-in-PointTriangle
returns-in-PointTriangle c =
    let a = c.args in
    let s : Scene = tabled a.positions.now a.edges.now a.triangles.now a.stands.now in
    pt_rests s a.i a.j c.in-PointTriangle.is c.corners_of.ensures c.point_rests.ensures

pub returns-in-EdgeEdge : goal.returns-in-EdgeEdge
returns-in-EdgeEdge c =
    let m = c in
    let a = m.args in
    let s : Scene = tabled a.positions.now a.edges.now a.triangles.now a.stands.now in
    ee_rests s a.i a.j m.in-EdgeEdge.is c.min.ensures c.ends_of-first.ensures c.max.ensures c.ends_of-second.ensures c.edges_rest.ensures

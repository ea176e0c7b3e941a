-- By kind: the corners, or the ends, are those of the pair.
use mathlib.Core.Path.{refl, sym}
use Rattle.scene_seams.specs.Alone.{tabled}
use Rattle.three_words.specs.Pairs.{ee_smaller_there, ee_larger_there}
use Rattle.scene_parts.specs.There.{pt_there}
use Rattle.scene_checks.specs.Facts.{accepted_sound}
use Rattle.contact_pair.specs.Ready.{pt_asked, ee_asked}
use Rattle.contact_pair.proofs.accepted.contact_numbers.Goals as goal

pub corners_of-requires : goal.corners_of-requires
corners_of-requires c =
    let s = c in
    let a = s.args in
    (pt_there (tabled a.positions.now a.edges.now a.triangles.now a.stands.now) a.i a.j (rw c.in-PointTriangle.is at s.requires.1)).1

pub point_contact_numbers-requires : goal.point_contact_numbers-requires
point_contact_numbers-requires c =
    let s = c in
    let a = s.args in
    rw c.corners_of.ensures (pt_asked (tabled a.positions.now a.edges.now a.triangles.now a.stands.now) a.i a.j (accepted_sound s.requires.0) (rw c.in-PointTriangle.is at s.requires.1) (rw c.in-PointTriangle.is at s.requires.2))

pub ends_of-first-requires : goal.ends_of-first-requires
ends_of-first-requires c =
    let s = c in
    let a = s.args in
    rw c.min.ensures (ee_smaller_there (tabled a.positions.now a.edges.now a.triangles.now a.stands.now) a.i a.j (rw c.in-EdgeEdge.is at s.requires.1))

pub ends_of-second-requires : goal.ends_of-second-requires
ends_of-second-requires c =
    let s = c in
    let a = s.args in
    rw c.max.ensures (ee_larger_there (tabled a.positions.now a.edges.now a.triangles.now a.stands.now) a.i a.j (rw c.in-EdgeEdge.is at s.requires.1))

pub edges_contact_numbers-requires : goal.edges_contact_numbers-requires
edges_contact_numbers-requires c =
    let s = c in
    let a = s.args in
    let k = c.in-EdgeEdge.is in
    rw (c.ends_of-second.ensures, c.ends_of-first.ensures, c.max.ensures, c.min.ensures)
    (ee_asked (tabled a.positions.now a.edges.now a.triangles.now a.stands.now) a.i a.j (accepted_sound s.requires.0) (rw k at s.requires.1) (rw k at s.requires.2))

pub returns-in-PointTriangle : goal.returns-in-PointTriangle
returns-in-PointTriangle c =
    let a = c.args in
    rw c.in-PointTriangle.is (c.point_contact_numbers.ensures (tabled a.positions.now a.edges.now a.triangles.now a.stands.now) a.j refl (sym c.corners_of.ensures))

pub returns-in-EdgeEdge : goal.returns-in-EdgeEdge
returns-in-EdgeEdge c =
    let a = c.args in
    rw c.in-EdgeEdge.is
    (c.edges_contact_numbers.ensures (tabled a.positions.now a.edges.now a.triangles.now a.stands.now) a.i a.j refl
    (sym (rw c.min.ensures at c.ends_of-first.ensures))
    (sym (rw c.max.ensures at c.ends_of-second.ensures)))

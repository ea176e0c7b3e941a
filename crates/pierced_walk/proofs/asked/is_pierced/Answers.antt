-- `is_pierced`: the vertices first, then the places.
use Rattle.scene_seams.specs.Alone.{tabled}
use Rattle.scene_seams.specs.Table.{seams_of}
use Rattle.pierced_pair.specs.Parts.{parts_in}
use Rattle.pierced_walk.specs.Rows.{shared_fails, asked_passes}
use Rattle.pierced_walk.proofs.asked.is_pierced.Goals as goal

pub end_is_corner-requires : goal.end_is_corner-requires
end_is_corner-requires c = let start = c in (start.requires.1, start.requires.2)

pub returns-then-end_is_corner : goal.returns-then-end_is_corner
returns-then-end_is_corner c =
    let a = c.args in
    shared_fails a.frame (tabled a.positions.now a.edges.now a.triangles.now a.stands.now) a.i a.j (c.end_is_corner.ensures a.positions.now) c.if-end_is_corner.true

pub pierced-requires : goal.pierced-requires
pierced-requires c =
    let start = c in
    let a = start.args in
    parts_in {s = tabled a.positions.now a.edges.now a.triangles.now a.stands.now} start.requires.0 a.i a.j start.requires.1 start.requires.2

pub returns : goal.returns
returns c =
    let a = c.args in
    asked_passes a.frame (tabled a.positions.now a.edges.now a.triangles.now a.stands.now) a.i a.j (c.end_is_corner.ensures a.positions.now) c.if-end_is_corner.false
    (c.pierced.ensures (seams_of a.stands.now))

-- 5, then 6, then what is told.
use Rattle.meaning.specs.Scene.{Scene}
use Rattle.scene_seams.specs.Table.{seams_of}
use Rattle.scene_checks.specs.Facts.{accepted_sound}
use Rattle.scene_seams.specs.Alone.{tabled}
use Rattle.pierced_pair.specs.Parts.{parts_in}
use Rattle.pierced_pair.specs.Asked.{parts_there, five_first, then_six, then_told}
use Rattle.pierced_pair.proofs.accepted.answer.Goals as goal

pub returns-then-edges-edge : goal.returns-then-edges-edge
returns-then-edges-edge c =
    let a = c.args in
    let s : Scene = tabled a.positions.now a.edges.now a.triangles.now a.stands.now in
    five_first s a.frame a.edge a.triangle c.if-edges-edge.true

pub end_is_corner-requires : goal.end_is_corner-requires
end_is_corner-requires c =
    let a = c.args in
    let s : Scene = tabled a.positions.now a.edges.now a.triangles.now a.stands.now in
    parts_there s a.frame a.edge a.triangle c.if-edges-edge.false

pub returns-then-end_is_corner : goal.returns-then-end_is_corner
returns-then-end_is_corner c =
    let a = c.args in
    let s : Scene = tabled a.positions.now a.edges.now a.triangles.now a.stands.now in
    then_six s a.frame a.edge a.triangle c.if-edges-edge.false (c.end_is_corner.ensures a.positions.now) c.if-end_is_corner.true

pub pierced-requires : goal.pierced-requires
pierced-requires c =
    let a = c.args in
    let s : Scene = tabled a.positions.now a.edges.now a.triangles.now a.stands.now in
    let there = parts_there s a.frame a.edge a.triangle c.if-edges-edge.false in
    parts_in {s = s} (accepted_sound c.requires) a.edge a.triangle there.0 there.1

pub returns : goal.returns
returns c =
    let a = c.args in
    let s : Scene = tabled a.positions.now a.edges.now a.triangles.now a.stands.now in
    then_told s a.frame a.edge a.triangle c.if-edges-edge.false (c.end_is_corner.ensures a.positions.now) c.if-end_is_corner.false
    _ (c.pierced.ensures (seams_of a.stands.now))

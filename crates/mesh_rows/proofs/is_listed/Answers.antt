-- `is_listed`: the vertices, then how far, by the choice of rows.
use borrow.Author.Rules.{rules}
use Rattle.scene_seams.specs.Alone.{tabled}
use Rattle.scene_seams.specs.Table.{seams_of}
use Rattle.mesh_rows.specs.Asking.{sharing_fails, apart_passes, told_listed, told_near}
use Rattle.mesh_rows.proofs.is_listed.Goals as goal

pub shares_vertex-shared-requires : goal.shares_vertex-shared-requires
shares_vertex-shared-requires c = c.requires.there

pub returns-then-shared : goal.returns-then-shared
returns-then-shared c =
    let a = c.args in
    sharing_fails a.which (tabled a.positions.now a.edges.now a.triangles.now a.stands.now) a.kind a.i a.j
    c.shares_vertex-shared.ensures
    c.if-shared.true

pub is_far-requires : goal.is_far-requires
is_far-requires c = c.requires.spanned

pub returns-in-Listed : goal.returns-in-Listed
returns-in-Listed c =
    let a = c.args in
    apart_passes a.which (tabled a.positions.now a.edges.now a.triangles.now a.stands.now) a.kind a.i a.j
    c.shares_vertex-shared.ensures
    c.if-shared.false
    (told_listed _ _ _ _ _ c.in-Listed.is)

pub returns-in-Near : goal.returns-in-Near
returns-in-Near c =
    let a = c.args in
    apart_passes a.which (tabled a.positions.now a.edges.now a.triangles.now a.stands.now) a.kind a.i a.j
    c.shares_vertex-shared.ensures
    c.if-shared.false
    (told_near _ _ _ _ _ c.in-Near.is (c.is_far.ensures (seams_of a.stands.now)))

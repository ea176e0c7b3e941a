-- `keep_contacts`: a refusal of what comes first is passed on, and the rows of an accepted mesh are judged and met, by the table of its seams.
use mathlib.Core.Path.{refl}
use lib.ListN.{length}
use Rattle.std.proofs.lemmas.Result.{err_from_is_err_and}
use Rattle.meaning.specs.MeshRows.{lent_of}
use Rattle.meaning.specs.Scene.{scene_of}
use Rattle.mesh_list.specs.Answering.{by_count, open_plantable, open_lent, open_rows}
use Rattle.mesh_met.specs.Meeting.{open_accepted}
use Rattle.mesh_met_kept.specs.Meeting.{not_met, met}
use Rattle.mesh_met_kept.proofs.keep_contacts.Goals as goal

pub contact_there-requires : goal.contact_there-requires
contact_there-requires c =
    let a = c.args in
    let s = scene_of a.positions.now a.edges.now a.triangles.now a.seams.now in
    let l = lent_of a.edge_order.now a.triangle_order.now (length a.table.now) (length a.places.now) (length a.boxes.now) in
    let asked = by_count {s = s} c.row_count-rows.ensures c.ask_rows.ensures in
    let passed = c.in_ok-ask_rows.was in
    let there = open_rows asked passed in record { plantable = (open_plantable asked passed a.boxes.now refl, there.0, there.1); orders_lent = open_lent asked passed _ c.places-1.given; accepted_mesh = open_accepted a.which s l a.first a.end asked passed }

pub returns-in_err-ask_rows : goal.returns-in_err-ask_rows
returns-in_err-ask_rows c =
    let a = c.args in
    let s = scene_of a.positions.now a.edges.now a.triangles.now a.seams.now in
    let l = lent_of a.edge_order.now a.triangle_order.now (length a.table.now) (length a.places.now) (length a.boxes.now) in
    let (y, is, same) = err_from_is_err_and c.from_residual.result c.from_residual.ensures.1 in
    rw (is, same) (not_met a.which a.wanted s l a.first a.end (by_count {s = s} c.row_count-rows.ensures c.ask_rows.ensures) a.list.now a.words.now a.contacts.now _ c.in_err-ask_rows.was)

pub returns : goal.returns
returns c =
    let a = c.args in
    let s = scene_of a.positions.now a.edges.now a.triangles.now a.seams.now in
    let l = lent_of a.edge_order.now a.triangle_order.now (length a.table.now) (length a.places.now) (length a.boxes.now) in
    met a.which a.wanted s l a.first a.end (by_count {s = s} c.row_count-rows.ensures c.ask_rows.ensures) c.in_ok-ask_rows.was c.contact_there.ensures

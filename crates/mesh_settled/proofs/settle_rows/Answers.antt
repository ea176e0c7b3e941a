-- `settle_rows`: a refusal of what comes first is passed on, and the rows of an accepted mesh are judged, by the table of its seams.
use mathlib.Core.Path.{refl}
use lib.ListN.{length}
use Rattle.std.proofs.lemmas.Result.{err_from_is_err_and}
use Rattle.meaning.specs.MeshRows.{lent_of}
use Rattle.meaning.specs.Scene.{scene_of}
use Rattle.mesh_list.specs.Answering.{by_count, open_plantable, open_lent, open_rows}
use Rattle.mesh_settled.specs.Settling.{open_sound, not_settled, settled}
use Rattle.mesh_settled.proofs.settle_rows.Goals as goal

pub settle_there-requires : goal.settle_there-requires
settle_there-requires c =
    let a = c.args in
    let s = scene_of a.positions.now a.edges.now a.triangles.now a.seams.now in
    let l = lent_of a.edge_order.now a.triangle_order.now (length a.table.now) (length a.places.now) (length a.boxes.now) in
    let asked = by_count {s = s} c.row_count-rows.ensures c.ask_rows.ensures in
    let there = open_rows asked c.in_ok-ask_rows.was in
    let passed = c.in_ok-ask_rows.was in record { plantable = (open_plantable asked passed a.boxes.now refl, there.0, there.1); orders_lent = open_lent asked passed _ c.places-1.given; sound = open_sound a.which s l a.first a.end asked passed }

pub returns-in_err-ask_rows : goal.returns-in_err-ask_rows
returns-in_err-ask_rows c =
    let a = c.args in
    let s = scene_of a.positions.now a.edges.now a.triangles.now a.seams.now in
    let l = lent_of a.edge_order.now a.triangle_order.now (length a.table.now) (length a.places.now) (length a.boxes.now) in
    let (y, is, same) = err_from_is_err_and c.from_residual.result c.from_residual.ensures.1 in
    rw (is, same) (not_settled a.which s l a.first a.end (by_count {s = s} c.row_count-rows.ensures c.ask_rows.ensures) a.list.now a.words.now _ c.in_err-ask_rows.was)

pub returns : goal.returns
returns c =
    let a = c.args in
    let s = scene_of a.positions.now a.edges.now a.triangles.now a.seams.now in
    let l = lent_of a.edge_order.now a.triangle_order.now (length a.table.now) (length a.places.now) (length a.boxes.now) in
    settled a.which s l a.first a.end (by_count {s = s} c.row_count-rows.ensures c.ask_rows.ensures) c.in_ok-ask_rows.was c.settle_there.ensures

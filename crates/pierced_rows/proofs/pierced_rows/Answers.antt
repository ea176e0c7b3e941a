-- `pierced_rows`: a refusal of what comes first is passed on, and the rows of an accepted mesh are listed, by the table of its seams.
use native.Mathlib.Omega.{arith}
use mathlib.Core.Path.{refl}
use lib.ListN.{length}
use Rattle.std.proofs.lemmas.Result.{err_from_is_err_and}
use Rattle.meaning.specs.MeshRows.{lent_of}
use Rattle.meaning.specs.Scene.{scene_of}
use Rattle.mesh_list.specs.Answering.{open_plantable, open_rows}
use Rattle.pierced_rows.specs.Answering.{by_edges, open_sound, not_listed, listed}
use Rattle.pierced_rows.proofs.pierced_rows.Goals as goal

pub list_through-requires : goal.list_through-requires
list_through-requires c =
    let a = c.args in
    let asked = by_edges {s = scene_of a.positions.now a.edges.now a.triangles.now a.seams.now} c.edge_count-rows.ensures c.ask_rows.ensures in
    let there = open_rows asked c.in_ok-ask_rows.was in record { plantable = (open_plantable asked c.in_ok-ask_rows.was a.boxes.now refl, open_sound asked c.in_ok-ask_rows.was, there.0, there.1); room_in_bounds = omega arith }

pub returns-in_err-ask_rows : goal.returns-in_err-ask_rows
returns-in_err-ask_rows c =
    let a = c.args in
    let s = scene_of a.positions.now a.edges.now a.triangles.now a.seams.now in
    let l = lent_of a.edge_order.now a.triangle_order.now (length a.table.now) (length a.places.now) (length a.boxes.now) in
    let (y, is, same) = err_from_is_err_and c.from_residual.result c.from_residual.ensures.1 in
    rw (is, same) (not_listed a.frame s l a.first a.end (by_edges {s = s} c.edge_count-rows.ensures c.ask_rows.ensures) a.list.now _ c.in_err-ask_rows.was)

pub returns : goal.returns
returns c =
    let a = c.args in
    let s = scene_of a.positions.now a.edges.now a.triangles.now a.seams.now in
    let l = lent_of a.edge_order.now a.triangle_order.now (length a.table.now) (length a.places.now) (length a.boxes.now) in
    listed a.frame s l a.first a.end (by_edges {s = s} c.edge_count-rows.ensures c.ask_rows.ensures) c.in_ok-ask_rows.was c.list_through.ensures

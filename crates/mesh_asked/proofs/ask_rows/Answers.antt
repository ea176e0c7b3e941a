-- `ask_rows`: each return is right by the tests that led to it.
use mathlib.Core.Path.{sym, ◌∙◌}
use lib.ListN.{length}
use Rattle.std.proofs.lemmas.Result.{err_from_is_err_and}
use Rattle.meaning.specs.MeshRows.{lent_of}
use Rattle.meaning.specs.Scene.{scene_of}
use Rattle.mesh_asked.specs.Asking.{too_short, table_room_lem, orders_room, few_parts, mesh_refused, mesh_passed}
use Rattle.mesh_asked.proofs.ask_rows.Goals as goal

pub returns-then-lent_short : goal.returns-then-lent_short
returns-then-lent_short c =
    let a = c.args in
    too_short (scene_of a.positions.now a.edges.now a.triangles.now a.seams.now)
    (lent_of a.edge_order.now a.triangle_order.now (length a.table.now) (length a.places.now) a.boxes)
    a.rows a.first a.end _ (sym c.lent_short.ensures ∙ c.if-lent_short.true)

pub check_over-requires : goal.check_over-requires
check_over-requires c =
    let a = c.args in
    table_room_lem (scene_of a.positions.now a.edges.now a.triangles.now a.seams.now)
    (lent_of a.edge_order.now a.triangle_order.now (length a.table.now) (length a.places.now) a.boxes)
    (sym c.lent_short.ensures ∙ c.if-lent_short.false)

pub ask_there-requires : goal.ask_there-requires
ask_there-requires c =
    let a = c.args in
    let s = scene_of a.positions.now a.edges.now a.triangles.now a.seams.now in
    let rooms =
    orders_room s (lent_of a.edge_order.now a.triangle_order.now (length a.table.now) (length a.places.now) a.boxes)
    (sym c.lent_short.ensures ∙ c.if-lent_short.false) in record { edge_order_in_bounds = rooms; triangles_bound = few_parts {s = s} (c.check_over.ensures.accepted c.in_ok-check_over.was) }

pub returns-in_err-check_over : goal.returns-in_err-check_over
returns-in_err-check_over c =
    let a = c.args in
    let (y, is, same) = err_from_is_err_and c.from_residual.result c.from_residual.ensures.1 in
    rw (is, same)
    (mesh_refused (scene_of a.positions.now a.edges.now a.triangles.now a.seams.now)
    (lent_of a.edge_order.now a.triangle_order.now (length a.table.now) (length a.places.now) a.boxes)
    a.rows a.first a.end (sym c.lent_short.ensures ∙ c.if-lent_short.false) c.check_over.ensures _ c.in_err-check_over.was)

pub returns : goal.returns
returns c =
    let a = c.args in
    mesh_passed (scene_of a.positions.now a.edges.now a.triangles.now a.seams.now)
    (lent_of a.edge_order.now a.triangle_order.now (length a.table.now) (length a.places.now) a.boxes)
    a.rows a.first a.end (sym c.lent_short.ensures ∙ c.if-lent_short.false) c.check_over.ensures c.in_ok-check_over.was c.ask_there.result
    c.ask_there.ensures

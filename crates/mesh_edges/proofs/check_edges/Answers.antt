-- `check_edges`: each return is right by the tests that led to it.
use mathlib.Core.Path.{sym, ◌∙◌}
use Rattle.std.proofs.lemmas.Result.{err_from_is_err_and}
use Rattle.meaning.specs.Scene.{scene_of}
use Rattle.mesh_edges.specs.Checking.{lent_short, table_room_lem, place_room_lem, mesh_refused, mesh_passed, whole_triangles}
use Rattle.mesh_edges.proofs.check_edges.Goals as goal

pub returns-then-hints_short : goal.returns-then-hints_short
returns-then-hints_short c =
    let a = c.args in
    lent_short (scene_of a.positions.now a.edges.now a.triangles.now a.seams.now) a.sides.now a.order.now a.table.now a.places.now (sym c.hints_short.ensures ∙ c.if-hints_short.true)

pub check_over-requires : goal.check_over-requires
check_over-requires c =
    let a = c.args in
    table_room_lem (scene_of a.positions.now a.edges.now a.triangles.now a.seams.now) a.sides.now a.order.now a.table.now a.places.now (sym c.hints_short.ensures ∙ c.if-hints_short.false)

pub look-requires : goal.look-requires
look-requires c =
    let a = c.args in
    let s = scene_of a.positions.now a.edges.now a.triangles.now a.seams.now in
    (whole_triangles {s = s} (c.check_over.ensures.accepted c.in_ok-check_over.was), place_room_lem s a.sides.now a.order.now a.table.now a.places.now (sym c.hints_short.ensures ∙ c.if-hints_short.false))

pub returns-in_err-check_over : goal.returns-in_err-check_over
returns-in_err-check_over c =
    let a = c.args in
    let (y, is, same) = err_from_is_err_and c.from_residual.result c.from_residual.ensures.1 in
    rw (is, same)
    (mesh_refused (scene_of a.positions.now a.edges.now a.triangles.now a.seams.now) a.sides.now a.order.now a.table.now a.places.now (sym c.hints_short.ensures ∙ c.if-hints_short.false)
    c.check_over.ensures _ c.in_err-check_over.was)

pub returns : goal.returns
returns c =
    let a = c.args in
    mesh_passed (scene_of a.positions.now a.edges.now a.triangles.now a.seams.now) a.sides.now a.order.now a.table.now a.places.now (sym c.hints_short.ensures ∙ c.if-hints_short.false)
    c.check_over.ensures c.look.result c.in_ok-check_over.was c.look.ensures

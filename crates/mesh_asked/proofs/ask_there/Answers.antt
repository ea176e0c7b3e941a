-- `ask_there`: the orders, then the rows.
use mathlib.Core.Path.{sym, ◌∙◌}
use Rattle.mesh_asked.specs.Asking.{orders_wrong, rows_not_there, rows_there}
use Rattle.mesh_asked.proofs.ask_there.Goals as goal

pub returns-then-wrong_order : goal.returns-then-wrong_order
returns-then-wrong_order c =
    let a = c.args in
    orders_wrong a.edges.now a.triangles.now a.edge_order.now a.triangle_order.now a.rows a.first a.end (sym c.wrong_order.ensures.0 ∙ c.if-wrong_order.true)

pub returns-then-rows_gone : goal.returns-then-rows_gone
returns-then-rows_gone c =
    let a = c.args in
    rows_not_there a.edges.now a.triangles.now a.edge_order.now a.triangle_order.now a.rows a.first a.end (sym c.wrong_order.ensures.0 ∙ c.if-wrong_order.false) (sym c.rows_gone.ensures ∙ c.if-rows_gone.true)

pub returns-else-rows_gone : goal.returns-else-rows_gone
returns-else-rows_gone c =
    let a = c.args in
    rows_there a.edges.now a.triangles.now a.edge_order.now a.triangle_order.now a.rows a.first a.end (sym c.wrong_order.ensures.0 ∙ c.if-wrong_order.false) (sym c.rows_gone.ensures ∙ c.if-rows_gone.false)

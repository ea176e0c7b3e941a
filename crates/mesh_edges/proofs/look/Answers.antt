-- `look`: 18, then what is told.
use mathlib.Core.Path.{sym, ◌∙◌}
use Rattle.mesh_edges.specs.Checking.{hints_refused, hints_pass}
use Rattle.mesh_edges.proofs.look.Goals as goal

pub returns-then-wrong_hints : goal.returns-then-wrong_hints
returns-then-wrong_hints c =
    let a = c.args in
    hints_refused a.edges.now a.triangles.now a.sides.now a.order.now (sym c.wrong_hints.ensures ∙ c.if-wrong_hints.true)

pub tell-requires : goal.tell-requires
tell-requires c = (c.requires.0.0, sym c.wrong_hints.ensures ∙ c.if-wrong_hints.false)

pub returns : goal.returns
returns c =
    let a = c.args in
    hints_pass a.edges.now a.triangles.now a.sides.now a.order.now c.tell.result (sym c.wrong_hints.ensures ∙ c.if-wrong_hints.false) c.tell.ensures

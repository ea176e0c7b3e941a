-- `check_mesh`: each return is right by the tests that led to it.
use mathlib.Core.Path.{sym, ◌∙◌}
use Rattle.meaning.specs.Scene.{scene_of}
use Rattle.mesh_lent.specs.Answering.{too_short, long_enough, by_checks}
use Rattle.mesh_lent.proofs.check_mesh.Goals as goal

pub returns-then-table_short : goal.returns-then-table_short
returns-then-table_short c =
    let a = c.args in
    too_short (scene_of a.positions.now a.edges.now a.triangles.now a.seams.now) a.table.now (sym c.table_short.ensures ∙ c.if-table_short.true)

pub check_over-requires : goal.check_over-requires
check_over-requires c =
    let a = c.args in
    long_enough (scene_of a.positions.now a.edges.now a.triangles.now a.seams.now) a.table.now (sym c.table_short.ensures ∙ c.if-table_short.false)

pub returns : goal.returns
returns c =
    let a = c.args in
    by_checks (scene_of a.positions.now a.edges.now a.triangles.now a.seams.now) a.table.now (sym c.table_short.ensures ∙ c.if-table_short.false) c.check_over.ensures

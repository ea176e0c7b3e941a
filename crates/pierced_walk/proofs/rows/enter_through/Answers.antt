-- `enter_through`: a pierced one is counted, and any other leaves everything as it is.
use mathlib.Core.Bool.{◌&&◌}
use mathlib.Core.Path.{sym, ◌∙◌}
use Rattle.sequences.specs.Pick.{both}
use Rattle.scene_seams.specs.Alone.{tabled}
use Rattle.mesh_entries.specs.Entering.{entered_if, entered_else}
use Rattle.through_laws.specs.Listing.{entry_of}
use Rattle.pierced_walk.specs.Rows.{passes, kept_through}
use Rattle.pierced_walk.proofs.rows.enter_through.Goals as goal

pub put_below-requires : goal.put_below-requires
put_below-requires c =
    let start = c in
    let a = start.args in
    let s = tabled a.positions.now a.edges.now a.triangles.now a.stands.now in
    let found = (both a.found (passes a.frame s a.i a.j) (sym c.is_through.ensures ∙ c.if-is_through.true)).0 in
    (start.requires.most_in_bounds.0, start.requires.sound.2, start.requires.sound.4 found)

pub returns-then-is_through : goal.returns-then-is_through
returns-then-is_through c =
    let a = c.args in
    let s = tabled a.positions.now a.edges.now a.triangles.now a.stands.now in
    entered_if (a.found && passes a.frame s a.i a.j) (entry_of a.i a.j) c.is_through.ensures
    c.if-is_through.true
    (kept_through a.most a.k a.i a.j a.list.now c.put_below.ensures)

pub returns-else-is_through : goal.returns-else-is_through
returns-else-is_through c =
    let a = c.args in
    let s = tabled a.positions.now a.edges.now a.triangles.now a.stands.now in
    entered_else (a.found && passes a.frame s a.i a.j) (entry_of a.i a.j) c.is_through.ensures c.if-is_through.false

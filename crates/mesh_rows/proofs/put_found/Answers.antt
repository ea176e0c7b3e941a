-- `put_found`: a pair that is listed is counted, and one that is not leaves everything as it is.
use borrow.Author.Rules.{rules}
use native.Mathlib.Omega.{arith}
use mathlib.Core.Bool.{◌&&◌}
use mathlib.Core.Path.{refl}
use Rattle.scene_seams.specs.Alone.{tabled}
use Rattle.mesh_entries.specs.Entering.{entered_if, entered_else}
use Rattle.mesh_rows.specs.Asking.{passes, not_found, found_asked}
use Rattle.mesh_rows.proofs.put_found.Goals as goal

pub is_listed-requires : goal.is_listed-requires
is_listed-requires c = c.requires.askable c.if-found.true

pub put_place-requires : goal.put_place-requires
put_place-requires c =
    let start = c in
    omega (arith, (start.requires.askable c.if-found.true).narrow.second_few)

pub returns-then-is_listed : goal.returns-then-is_listed
returns-then-is_listed c =
    let a = c.args in
    let s = tabled a.positions.now a.edges.now a.triangles.now a.stands.now in
    entered_if (a.found && passes a.which s a.kind a.i a.j) a.j
    (found_asked a.which s a.kind a.i a.j c.if-found.true c.is_listed.ensures)
    c.if-is_listed.true
    c.put_place.ensures

pub returns-else-is_listed : goal.returns-else-is_listed
returns-else-is_listed c =
    let a = c.args in
    let s = tabled a.positions.now a.edges.now a.triangles.now a.stands.now in
    entered_else (a.found && passes a.which s a.kind a.i a.j) a.j
    (found_asked a.which s a.kind a.i a.j c.if-found.true c.is_listed.ensures)
    c.if-is_listed.false

pub returns-else-found : goal.returns-else-found
returns-else-found c =
    let a = c.args in
    let s = tabled a.positions.now a.edges.now a.triangles.now a.stands.now in
    entered_else (a.found && passes a.which s a.kind a.i a.j) a.j (not_found a.which s a.kind a.i a.j c.if-found.false) refl

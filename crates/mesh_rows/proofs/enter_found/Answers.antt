-- `enter_found`: a pair that is listed is counted, and one that is not leaves everything as it is.
use borrow.Author.Rules.{rules}
use borrow.Author.Tests.{not-true, not-false}
use mathlib.Core.Bool.{not, ◌&&◌}
use mathlib.Core.Path.{refl, ap}
use Rattle.scene_seams.specs.Alone.{tabled}
use Rattle.mesh_entries.specs.Entering.{entered_if, entered_else}
use Rattle.mesh_rows.specs.Asking.{passes, not_found, found_asked, sharing_fails, apart_passes}
use Rattle.mesh_rows.specs.Rows.{entry_of}
use Rattle.mesh_rows.proofs.enter_found.Goals as goal

pub returns-then-not-found : goal.returns-then-not-found
returns-then-not-found c =
    let start = c in
    let a = start.args in
    let s = tabled a.positions.now a.edges.now a.triangles.now a.stands.now in
    let t = a.found && passes a.which s a.kind a.i a.j in
    let e = entry_of a.kind a.i a.j in
    entered_else t e (not_found a.which s a.kind a.i a.j (not-true a.found c.if-not-found.true-raw)) refl

pub shares_vertex-requires : goal.shares_vertex-requires
shares_vertex-requires c = let start = c in (start.requires.askable (not-false start.args.found c.if-not-found.false-raw)).there

pub returns-then-shares_vertex : goal.returns-then-shares_vertex
returns-then-shares_vertex c =
    let start = c in
    let a = start.args in
    let s = tabled a.positions.now a.edges.now a.triangles.now a.stands.now in
    let t = a.found && passes a.which s a.kind a.i a.j in
    let e = entry_of a.kind a.i a.j in
    entered_else t e (found_asked a.which s a.kind a.i a.j (not-false a.found c.if-not-found.false-raw) (sharing_fails a.which s a.kind a.i a.j c.shares_vertex.ensures c.if-shares_vertex.true)) refl

pub left_out-requires : goal.left_out-requires
left_out-requires c = let start = c in (start.requires.askable (not-false start.args.found c.if-not-found.false-raw)).spanned

pub returns-then-left_out : goal.returns-then-left_out
returns-then-left_out c =
    let start = c in
    let a = start.args in
    let s = tabled a.positions.now a.edges.now a.triangles.now a.stands.now in
    let t = a.found && passes a.which s a.kind a.i a.j in
    let e = entry_of a.kind a.i a.j in
    entered_else t e (found_asked a.which s a.kind a.i a.j (not-false a.found c.if-not-found.false-raw) (apart_passes a.which s a.kind a.i a.j c.shares_vertex.ensures c.if-shares_vertex.false c.left_out.ensures)) (ap not c.if-left_out.true)

pub put_below-requires : goal.put_below-requires
put_below-requires c =
    let start = c in
    let narrow = (start.requires.askable (not-false start.args.found c.if-not-found.false-raw)).narrow in
    (start.requires.most_in_bounds.0, narrow.first_few, narrow.second_few)

pub returns : goal.returns
returns c =
    let start = c in
    let a = start.args in
    let s = tabled a.positions.now a.edges.now a.triangles.now a.stands.now in
    let t = a.found && passes a.which s a.kind a.i a.j in
    let e = entry_of a.kind a.i a.j in
    entered_if t e (found_asked a.which s a.kind a.i a.j (not-false a.found c.if-not-found.false-raw) (apart_passes a.which s a.kind a.i a.j c.shares_vertex.ensures c.if-shares_vertex.false c.left_out.ensures)) (ap not c.if-left_out.false) c.put_below.ensures

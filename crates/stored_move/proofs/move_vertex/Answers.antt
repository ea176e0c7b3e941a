-- `move_vertex`: each return is right by the tests that led to it.
use borrow.Author.Rules.{rules}
use Rattle.std.proofs.lemmas.Result.{err_from_is_err_and}
use native.Mathlib.Omega.{arith}
use mathlib.Core.Path.{sym, ap, ◌∙◌}
use lib.Dec.{leb}
use lib.ListN.{length}
use borrow.Author.Tests.{leb-false, ltb-false}
use Rattle.meaning.specs.Scene.{scene_of}
use Rattle.meaning.specs.StoredBoxes.{box_numbers}
use Rattle.scene_checks.specs.Facts.{accepted_sized}
use Rattle.list_boxes.specs.Parts.{accepted_drawn}
use Rattle.stored_laws.specs.Torn.{together}
use Rattle.stored_laws.specs.Placed.{placed_length}
use Rattle.stored_laws.specs.Moved.{moved_accepted}
use Rattle.stored_move.specs.Answering.{boxed_passed, moved_refused, moved_not_there, moved_outside, moved_torn, moved_done}
use Rattle.stored_move.proofs.move_vertex.Goals as goal

pub returns-in_err-check_boxed : goal.returns-in_err-check_boxed
returns-in_err-check_boxed c =
    let a = c.args in
    let s = scene_of a.positions.now a.edges.now a.triangles.now a.seams.now in
    let (y, is, same) = err_from_is_err_and c.from_residual.result c.from_residual.ensures.1 in
    rw (is, same) (moved_refused s a.v a.coordinates.now a.boxes.now _ c.in_err-check_boxed.was c.check_boxed.ensures)

pub returns-then-absent : goal.returns-then-absent
returns-then-absent c =
    let a = c.args in
    let s = scene_of a.positions.now a.edges.now a.triangles.now a.seams.now in
    let (long, accepted) = boxed_passed s a.boxes.now c.in_ok-check_boxed.was c.check_boxed.ensures in
    moved_not_there s a.v a.coordinates.now a.boxes.now long accepted (sym (ap (λ n. leb n a.v) c.vertex_count.ensures) ∙ c.if-absent.true-raw)

pub tears_seam-torn-requires : goal.tears_seam-torn-requires
tears_seam-torn-requires c =
    let a = c.args in
    let s = scene_of a.positions.now a.edges.now a.triangles.now a.seams.now in
    let (long, accepted) = boxed_passed s a.boxes.now c.in_ok-check_boxed.was c.check_boxed.ensures in
    (together accepted, omega (arith, leb-false c.vertex_count.result a.v c.if-absent.false-raw, c.vertex_count.ensures), search rules)

pub returns-then-far : goal.returns-then-far
returns-then-far c =
    let a = c.args in
    let s = scene_of a.positions.now a.edges.now a.triangles.now a.seams.now in
    let (long, accepted) = boxed_passed s a.boxes.now c.in_ok-check_boxed.was c.check_boxed.ensures in
    moved_outside s a.v a.coordinates.now a.boxes.now long accepted (sym (ap (λ n. leb n a.v) c.vertex_count.ensures) ∙ c.if-absent.false-raw) (sym c.new_outside-far.ensures ∙ c.if-far.true)

pub returns-then-torn : goal.returns-then-torn
returns-then-torn c =
    let a = c.args in
    let s = scene_of a.positions.now a.edges.now a.triangles.now a.seams.now in
    let (long, accepted) = boxed_passed s a.boxes.now c.in_ok-check_boxed.was c.check_boxed.ensures in
    moved_torn s a.v a.coordinates.now a.boxes.now long accepted (sym (ap (λ n. leb n a.v) c.vertex_count.ensures) ∙ c.if-absent.false-raw) (sym c.new_outside-far.ensures ∙ c.if-far.false) (sym c.tears_seam-torn.ensures ∙ c.if-torn.true)

pub place-requires : goal.place-requires
place-requires c = (omega (arith, leb-false c.vertex_count.result c.args.v c.if-absent.false-raw, c.vertex_count.ensures), search rules)

pub mend-requires : goal.mend-requires
mend-requires c =
    let a = c.args in
    let s = scene_of a.positions.now a.edges.now a.triangles.now a.seams.now in
    let (long, accepted) = boxed_passed s a.boxes.now c.in_ok-check_boxed.was c.check_boxed.ensures in
    let there = leb-false c.vertex_count.result a.v c.if-absent.false-raw in
    let moved = moved_accepted s a.v a.coordinates.now accepted (omega (arith, there, c.vertex_count.ensures)) (sym c.new_outside-far.ensures ∙ c.if-far.false) (sym c.tears_seam-torn.ensures ∙ c.if-torn.false) in
    rw c.place.ensures (accepted_drawn moved, (accepted_sized moved).few_vertices, omega (arith, placed_length s.positions a.v a.coordinates.now, there, c.vertex_count.ensures), ltb-false (length a.boxes.now) box_numbers long)

pub returns : goal.returns
returns c =
    let a = c.args in
    let s = scene_of a.positions.now a.edges.now a.triangles.now a.seams.now in
    let (long, accepted) = boxed_passed s a.boxes.now c.in_ok-check_boxed.was c.check_boxed.ensures in
    moved_done s a.v a.coordinates.now a.boxes.now long accepted (sym (ap (λ n. leb n a.v) c.vertex_count.ensures) ∙ c.if-absent.false-raw) (sym c.new_outside-far.ensures ∙ c.if-far.false) (sym c.tears_seam-torn.ensures ∙ c.if-torn.false) c.place.ensures (rw c.place.ensures at (c.mend.ensures a.seams.now))

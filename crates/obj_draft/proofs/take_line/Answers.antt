-- `obj_draft::take_line` meets its contract: the line has no LF, says nothing, is skipped, or is a vertex's or a face's.
use mathlib.Core.Path.{refl, sym, ◌∙◌}
use Prim.Native.Nat.{◌+◌, ◌-◌}
use native.Mathlib.Omega.{arith}
use lib.ListN.{take, drop}
use Rattle.std.proofs.lemmas.Result.{err_from_is_err_and}
use Rattle.obj_laws.specs.Positive.{face_positive}
use Rattle.obj_draft.specs.Drafting.{stop_fits, take_unended, take_bad, take_skipped, take_misplaced_vertex, take_vertex, take_misplaced_face, take_face}
use Rattle.obj_draft.proofs.take_line.Goals as goal

pub slice_bounds-place_of-count : goal.slice_bounds-place_of-count
slice_bounds-place_of-count c = omega (arith, c.requires.inside)

pub slice_bounds-place_of-start : goal.slice_bounds-place_of-start
slice_bounds-place_of-start c = omega (arith, c.requires.inside)

pub overflow_add-stop : goal.overflow_add-stop
overflow_add-stop c = omega (arith, stop_fits c.args.text.now c.args.at c.place_of.ensures c.requires.inside)

pub returns-then-text-stop : goal.returns-then-text-stop
returns-then-text-stop c = take_unended c.args.text.now c.args.at c.args.c c.place_of.ensures refl c.args.positions.now c.args.edges.now c.args.triangles.now c.requires.inside c.if-text-stop.true

pub add_vertex-requires : goal.add_vertex-requires
add_vertex-requires c = omega (arith, c.requires.room.positions)

pub add_face-requires : goal.add_face-requires
add_face-requires c =
    let p = c.requires in
    let a = c.args in
    let line = take (a.at + c.place_of.result - a.at) (drop a.at a.text.now) in record { positive = face_positive line (sym c.line_of.ensures ∙ c.in-Face.is); bounded = p.bounded; face_room = p.room.faces; knows = p.knows }

pub returns-in-Bad : goal.returns-in-Bad
returns-in-Bad c = take_bad c.args.text.now c.args.at c.args.c c.place_of.ensures refl c.args.positions.now c.args.edges.now c.args.triangles.now c.requires.inside c.if-text-stop.false c.line_of.ensures c.in-Bad.is

pub returns-in-Skipped : goal.returns-in-Skipped
returns-in-Skipped c = take_skipped c.args.text.now c.args.at c.args.c c.place_of.ensures refl c.args.positions.now c.args.edges.now c.args.triangles.now c.requires.inside c.if-text-stop.false c.line_of.ensures c.in-Skipped.is

pub returns-in_err-counts-in-Vertex : goal.returns-in_err-counts-in-Vertex
returns-in_err-counts-in-Vertex c =
    let x = c.from_residual in
    let fault = err_from_is_err_and x.result x.ensures.1 in
    rw (fault.1, fault.2)
    (take_misplaced_vertex c.args.text.now c.args.at c.args.c c.place_of.ensures refl c.args.positions.now c.args.edges.now c.args.triangles.now c.requires.inside c.if-text-stop.false c.line_of.ensures c.in-Vertex.is _ _ c.in_err-counts-in-Vertex.ensures)

pub returns-in_ok-counts-in-Vertex : goal.returns-in_ok-counts-in-Vertex
returns-in_ok-counts-in-Vertex c =
    take_vertex c.args.text.now c.args.at c.args.c c.place_of.ensures refl c.args.positions.now c.args.edges.now c.args.triangles.now c.requires.inside c.if-text-stop.false c.line_of.ensures c.in-Vertex.is _ _ c.in_ok-counts-in-Vertex.ensures

pub returns-in_err-counts-in-Face : goal.returns-in_err-counts-in-Face
returns-in_err-counts-in-Face c =
    let x = c.from_residual-in_err-counts-in-Face in
    let fault = err_from_is_err_and x.result x.ensures.1 in
    rw (fault.1, fault.2)
    (take_misplaced_face c.args.text.now c.args.at c.args.c c.place_of.ensures refl c.args.positions.now c.args.edges.now c.args.triangles.now c.requires.inside c.if-text-stop.false c.line_of.ensures c.in-Face.is _ _ _ c.in_err-counts-in-Face.ensures)

pub returns-in_ok-counts-in-Face : goal.returns-in_ok-counts-in-Face
returns-in_ok-counts-in-Face c =
    take_face c.args.text.now c.args.at c.args.c c.place_of.ensures refl c.args.positions.now c.args.edges.now c.args.triangles.now c.requires.inside c.if-text-stop.false c.line_of.ensures c.in-Face.is _ _ _ c.in_ok-counts-in-Face.ensures

-- `obj_line::line_of` meets its contract: its tests are those of the definition.
use native.Mathlib.Omega.{arith}
use Rattle.obj_line.specs.Parting.{two_there, says_skipped, says_vertex, says_face, says_nothing}
use Rattle.obj_line.proofs.line_of.Goals as goal

pub returns-then-s-a : goal.returns-then-s-a
returns-then-s-a c = says_skipped c.args.s.now c.byte_at-a.ensures c.byte_at-b.ensures c.byte_at-c.ensures c.if-s-a.true

pub slice_bounds-vertex_of-count : goal.slice_bounds-vertex_of-count
slice_bounds-vertex_of-count c = omega (arith, two_there c.args.s.now 118 32 c.byte_at-a.ensures c.byte_at-b.ensures (omega arith) c.if-a-b.true)

pub slice_bounds-vertex_of-start : goal.slice_bounds-vertex_of-start
slice_bounds-vertex_of-start c = omega (arith, two_there c.args.s.now 118 32 c.byte_at-a.ensures c.byte_at-b.ensures (omega arith) c.if-a-b.true)

pub returns-then-a-b : goal.returns-then-a-b
returns-then-a-b c =
    says_vertex c.args.s.now c.byte_at-a.ensures c.byte_at-b.ensures c.byte_at-c.ensures c.if-s-a.false
    c.if-a-b.true c.vertex_of.ensures

pub slice_bounds-face_of-count : goal.slice_bounds-face_of-count
slice_bounds-face_of-count c = omega (arith, two_there c.args.s.now 102 32 c.byte_at-a.ensures c.byte_at-b.ensures (omega arith) c.if-a-b-2.true)

pub slice_bounds-face_of-start : goal.slice_bounds-face_of-start
slice_bounds-face_of-start c = omega (arith, two_there c.args.s.now 102 32 c.byte_at-a.ensures c.byte_at-b.ensures (omega arith) c.if-a-b-2.true)

pub returns-then-a-b-2 : goal.returns-then-a-b-2
returns-then-a-b-2 c =
    says_face c.args.s.now c.byte_at-a.ensures c.byte_at-b.ensures c.byte_at-c.ensures c.if-s-a.false
    c.if-a-b.false c.if-a-b-2.true c.face_of.ensures

pub returns : goal.returns
returns c =
    says_nothing c.args.s.now c.byte_at-a.ensures c.byte_at-b.ensures c.byte_at-c.ensures c.if-s-a.false
    c.if-a-b.false c.if-a-b-2.false

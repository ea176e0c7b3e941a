-- `obj_records::add_face` meets its contract: the face is at fault; or its sides and its corners are put, and there are too many edges or not.
use native.Mathlib.Omega.{arith}
use Rattle.std.proofs.lemmas.Result.{err_from_is_err_and}
use Rattle.obj_records.specs.Adding.{face_fault, face_place, face_known, sides_ready, face_over, face_put}
use Rattle.obj_records.proofs.add_face.Goals as goal

pub overflow_sub-i : goal.overflow_sub-i
overflow_sub-i c = omega (arith, c.requires.positive.first)

pub overflow_sub-j : goal.overflow_sub-j
overflow_sub-j c = omega (arith, c.requires.positive.second)

pub overflow_sub-k : goal.overflow_sub-k
overflow_sub-k c = omega (arith, c.requires.positive.third)

pub overflow_cast-i : goal.overflow_cast-i
overflow_cast-i c = omega (arith, c.requires.bounded.vertices, (face_known c.args.c c.args.a c.args.b c.args.d c.judge_face.ensures c.in_ok-judge_face.was).0)

pub overflow_cast-j : goal.overflow_cast-j
overflow_cast-j c = omega (arith, c.requires.bounded.vertices, (face_known c.args.c c.args.a c.args.b c.args.d c.judge_face.ensures c.in_ok-judge_face.was).1)

pub overflow_cast-k : goal.overflow_cast-k
overflow_cast-k c = omega (arith, c.requires.bounded.vertices, (face_known c.args.c c.args.a c.args.b c.args.d c.judge_face.ensures c.in_ok-judge_face.was).2)

pub add_sides-count-requires : goal.add_sides-count-requires
add_sides-count-requires c = let g = c in record { tabled = (sides_ready g.args.c g.args.a g.args.b g.args.d c.judge_face.ensures g.requires.bounded g.requires.face_room.sides g.requires.knows c.in_ok-judge_face.was).0; a_lt_vertex_limit = (sides_ready g.args.c g.args.a g.args.b g.args.d c.judge_face.ensures g.requires.bounded g.requires.face_room.sides g.requires.knows c.in_ok-judge_face.was).1 }

pub overflow_cast-i-2 : goal.overflow_cast-i-2
overflow_cast-i-2 c = omega (arith, c.requires.bounded.vertices, (face_known c.args.c c.args.a c.args.b c.args.d c.judge_face.ensures c.in_ok-judge_face.was).0)

pub overflow_cast-j-2 : goal.overflow_cast-j-2
overflow_cast-j-2 c = omega (arith, c.requires.bounded.vertices, (face_known c.args.c c.args.a c.args.b c.args.d c.judge_face.ensures c.in_ok-judge_face.was).1)

pub overflow_cast-k-2 : goal.overflow_cast-k-2
overflow_cast-k-2 c = omega (arith, c.requires.bounded.vertices, (face_known c.args.c c.args.a c.args.b c.args.d c.judge_face.ensures c.in_ok-judge_face.was).2)

pub put_triangle-requires : goal.put_triangle-requires
put_triangle-requires c = omega (arith, face_place c.args.c c.args.a c.args.b c.args.d c.judge_face.ensures c.in_ok-judge_face.was, c.requires.face_room.corners)

pub returns-then-count-gt-EDGE_LIMIT : goal.returns-then-count-gt-EDGE_LIMIT
returns-then-count-gt-EDGE_LIMIT c =
    face_over c.args.c c.args.a c.args.b c.args.d c.judge_face.ensures c.requires.bounded c.requires.face_room.sides c.in_ok-judge_face.was
    c.add_sides-count.ensures _ _ c.if-count-gt-EDGE_LIMIT.true

pub returns-in_err-judge_face : goal.returns-in_err-judge_face
returns-in_err-judge_face c =
    let (y, is, same) = err_from_is_err_and c.from_residual.result c.from_residual.ensures.1 in
    rw (is, same) (face_fault c.args.c c.args.a c.args.b c.args.d c.judge_face.ensures _ _ _ _ c.in_err-judge_face.was)

pub returns : goal.returns
returns c =
    face_put c.args.c c.args.a c.args.b c.args.d c.judge_face.ensures c.requires.bounded c.requires.face_room.sides c.in_ok-judge_face.was
    c.add_sides-count.ensures c.if-count-gt-EDGE_LIMIT.false c.put_triangle.ensures

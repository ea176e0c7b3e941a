-- `obj_records::add_vertex` meets its contract: the vertex is at fault, or it is put twice, as start and as end.
use mathlib.Core.Path.{◌∙◌}
use native.Mathlib.Omega.{arith}
use Rattle.std.proofs.lemmas.Result.{err_from_is_err_and}
use Rattle.obj_records.specs.Adding.{vertex_fault, vertex_near, vertex_place, vertex_put}
use Rattle.obj_records.proofs.add_vertex.Goals as goal

pub overflow_mul-at : goal.overflow_mul-at
overflow_mul-at c = omega (arith, vertex_place c.args.c c.args.x c.args.y c.args.z c.judge_vertex.ensures c.in_ok-judge_vertex.was)

pub put_point-requires : goal.put_point-requires
put_point-requires c =
    let judged = c.judge_vertex.ensures in
    let good = c.in_ok-judge_vertex.was in record { at_in_bounds = omega (arith, c.requires, vertex_place c.args.c c.args.x c.args.y c.args.z judged good); near = vertex_near c.args.c c.args.x c.args.y c.args.z judged good }

pub overflow_add-at : goal.overflow_add-at
overflow_add-at c = omega (arith, vertex_place c.args.c c.args.x c.args.y c.args.z c.judge_vertex.ensures c.in_ok-judge_vertex.was)

pub put_point-requires-2 : goal.put_point-requires-2
put_point-requires-2 c =
    let judged = c.judge_vertex.ensures in
    let good = c.in_ok-judge_vertex.was in record { at_in_bounds = omega (arith, c.requires, c.put_point.ensures.same, vertex_place c.args.c c.args.x c.args.y c.args.z judged good); near = vertex_near c.args.c c.args.x c.args.y c.args.z judged good }

pub overflow_add-result : goal.overflow_add-result
overflow_add-result c = omega (arith, vertex_place c.args.c c.args.x c.args.y c.args.z c.judge_vertex.ensures c.in_ok-judge_vertex.was)

pub returns-in_err-judge_vertex : goal.returns-in_err-judge_vertex
returns-in_err-judge_vertex c =
    let (y, is, same) = err_from_is_err_and c.from_residual.result c.from_residual.ensures.1 in
    rw (is, same) (vertex_fault c.args.c c.args.x c.args.y c.args.z c.judge_vertex.ensures _ _ c.in_err-judge_vertex.was)

pub shape_of-positions : goal.shape_of-positions
shape_of-positions c = c.put_point-2.ensures.same ∙ c.put_point.ensures.same

pub returns : goal.returns
returns c = vertex_put c.args.c c.args.x c.args.y c.args.z c.judge_vertex.ensures c.in_ok-judge_vertex.was c.put_point.ensures c.put_point-2.ensures

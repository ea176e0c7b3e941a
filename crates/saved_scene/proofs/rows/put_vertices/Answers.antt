use native.Mathlib.Omega.{arith}
use Rattle.sequences.specs.Writing.{writing_starts, writing_room_for, writing_steps, writing_as, writing_ends}
use Rattle.saved_scene.specs.Rows.{six_line, vertices_next, vertices_none}
use Rattle.saved_scene.proofs.rows.put_vertices.Goals as goal

pub loop-k-init : goal.loop-k-init
loop-k-init c = writing_starts _ _ _ c.requires.positions_in_bounds

pub put_vertex-next-requires : goal.put_vertex-next-requires
put_vertex-next-requires c =
    let a = c.args in
    let w = c.loop-k in record { k_in_bounds = (c.loop-k-test.true, c.requires.positions_len.1); k_in_bounds_2 = writing_room_for (six_line a.positions.now w.k) _ (writing_as (vertices_next a.positions.now w.k c.loop-k-test.true) w.invariant) }

pub loop-k-preserved : goal.loop-k-preserved
loop-k-preserved c =
    let a = c.args in
    let w = c.loop-k in
    writing_steps (writing_as (vertices_next a.positions.now w.k c.loop-k-test.true) w.invariant) c.put_vertex-next.ensures

pub shape_of-out : goal.shape_of-out
shape_of-out c = c.loop-k.invariant.same

pub returns : goal.returns
returns c =
    let a = c.args in
    let w = c.loop-k in
    writing_ends (omega arith) (writing_as (vertices_none a.positions.now w.k c.requires.positions_len.0 c.loop-k-test.false) w.invariant)

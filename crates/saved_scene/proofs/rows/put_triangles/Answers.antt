use Prim.Native.Nat.{◌+◌, ◌*◌}
use native.Mathlib.Omega.{arith}
use lib.ListN.{get_or}
use Rattle.sequences.specs.Writing.{writing_starts, writing_room_for, writing_steps, writing_as, writing_ends}
use Rattle.saved_scene.specs.Rows.{three_line, triples_next, triples_none}
use Rattle.saved_scene.proofs.rows.put_triangles.Goals as goal

pub loop-k-init : goal.loop-k-init
loop-k-init c = writing_starts _ _ _ c.requires.list_in_bounds

pub put_triangle-next-requires : goal.put_triangle-next-requires
put_triangle-next-requires c =
    let a = c.args in
    let w = c.loop-k in record { k_in_bounds = c.loop-k-test.true; k_in_bounds_2 = writing_room_for (three_line (get_or a.list.now (3 * w.k) 0) (get_or a.list.now (3 * w.k + 1) 0) (get_or a.list.now (3 * w.k + 2) 0)) _ (writing_as (triples_next a.list.now w.k c.loop-k-test.true) w.invariant) }

pub loop-k-preserved : goal.loop-k-preserved
loop-k-preserved c =
    let a = c.args in
    let w = c.loop-k in
    writing_steps (writing_as (triples_next a.list.now w.k c.loop-k-test.true) w.invariant) c.put_triangle-next.ensures

pub shape_of-out : goal.shape_of-out
shape_of-out c = c.loop-k.invariant.same

pub returns : goal.returns
returns c =
    let a = c.args in
    let w = c.loop-k in
    writing_ends (omega arith) (writing_as (triples_none a.list.now w.k c.requires.list_len c.loop-k-test.false) w.invariant)

use Prim.Native.Nat.{◌+◌, ◌*◌}
use native.Mathlib.Omega.{arith}
use lib.ListN.{get_or}
use Rattle.sequences.specs.Writing.{writing_starts, writing_room_for, writing_steps, writing_as, writing_ends}
use Rattle.saved_scene.specs.Rows.{two_line, pairs_next, pairs_none}
use Rattle.saved_scene.proofs.rows.put_pairs.Goals as goal

pub loop-k-init : goal.loop-k-init
loop-k-init c = writing_starts _ _ _ c.requires.list_in_bounds

pub put_pair-next-requires : goal.put_pair-next-requires
put_pair-next-requires c =
    let a = c.args in
    let w = c.loop-k in record { k_in_bounds = c.loop-k-test.true; k_in_bounds_2 = writing_room_for (two_line a.letter (get_or a.list.now (2 * w.k) 0) (get_or a.list.now (2 * w.k + 1) 0)) _ (writing_as (pairs_next a.letter a.list.now w.k c.loop-k-test.true) w.invariant) }

pub loop-k-preserved : goal.loop-k-preserved
loop-k-preserved c =
    let a = c.args in
    let w = c.loop-k in
    writing_steps (writing_as (pairs_next a.letter a.list.now w.k c.loop-k-test.true) w.invariant) c.put_pair-next.ensures

pub shape_of-out : goal.shape_of-out
shape_of-out c = c.loop-k.invariant.same

pub returns : goal.returns
returns c =
    let a = c.args in
    let w = c.loop-k in
    writing_ends (omega arith) (writing_as (pairs_none a.letter a.list.now w.k c.requires.list_len c.loop-k-test.false) w.invariant)

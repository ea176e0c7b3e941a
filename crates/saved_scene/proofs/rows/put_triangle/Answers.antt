use Prim.Native.Nat.{◌+◌, ◌*◌}
use native.Mathlib.Omega.{arith}
use lib.ListN.{get_or}
use Rattle.sequences.specs.Wrote.{wrote_then}
use Rattle.saved_scene.specs.Lengths.{three_long}
use Rattle.saved_scene.proofs.rows.put_triangle.Goals as goal

pub put_number-next-requires : goal.put_number-next-requires
put_number-next-requires c = record { i_in_bounds = omega arith; i_in_bounds_2 = omega (arith, three_long (get_or c.args.list.now (3 * c.args.k) 0) (get_or c.args.list.now (3 * c.args.k + 1) 0) (get_or c.args.list.now (3 * c.args.k + 2) 0)) }

pub put_number-next-requires-2 : goal.put_number-next-requires-2
put_number-next-requires-2 c = record { i_in_bounds = omega arith; i_in_bounds_2 = omega (arith, three_long (get_or c.args.list.now (3 * c.args.k) 0) (get_or c.args.list.now (3 * c.args.k + 1) 0) (get_or c.args.list.now (3 * c.args.k + 2) 0)) }

pub put_number-next-requires-3 : goal.put_number-next-requires-3
put_number-next-requires-3 c = record { i_in_bounds = omega arith; i_in_bounds_2 = omega (arith, three_long (get_or c.args.list.now (3 * c.args.k) 0) (get_or c.args.list.now (3 * c.args.k + 1) 0) (get_or c.args.list.now (3 * c.args.k + 2) 0)) }

pub put_byte-requires : goal.put_byte-requires
put_byte-requires c = omega (arith, three_long (get_or c.args.list.now (3 * c.args.k) 0) (get_or c.args.list.now (3 * c.args.k + 1) 0) (get_or c.args.list.now (3 * c.args.k + 2) 0))

pub returns : goal.returns
returns c = wrote_then (wrote_then (wrote_then (wrote_then c.put_byte-next.ensures c.put_number-next.ensures) c.put_number-next-2.ensures) c.put_number-next-3.ensures) c.put_byte.ensures

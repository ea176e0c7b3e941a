use native.Mathlib.Omega.{arith}
use Rattle.sequences.specs.Wrote.{wrote_then}
use Rattle.saved_scene.specs.Lengths.{six_long}
use Rattle.saved_scene.proofs.rows.put_vertex.Goals as goal

pub put_place-next-requires : goal.put_place-next-requires
put_place-next-requires c = record { i_in_bounds = (omega arith, c.requires.k_in_bounds.1); i_in_bounds_2 = omega (arith, six_long c.args.positions.now c.args.k) }

pub put_place-next-requires-2 : goal.put_place-next-requires-2
put_place-next-requires-2 c = record { i_in_bounds = (omega arith, c.requires.k_in_bounds.1); i_in_bounds_2 = omega (arith, six_long c.args.positions.now c.args.k) }

pub put_byte-requires : goal.put_byte-requires
put_byte-requires c = omega (arith, six_long c.args.positions.now c.args.k)

pub returns : goal.returns
returns c = wrote_then (wrote_then (wrote_then c.put_byte-next.ensures c.put_place-next.ensures) c.put_place-next-2.ensures) c.put_byte.ensures

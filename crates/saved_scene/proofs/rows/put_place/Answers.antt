-- `put_place`: three fields, one behind the other.
use native.Mathlib.Omega.{arith}
use Rattle.sequences.specs.Wrote.{wrote_then}
use Rattle.saved_scene.specs.Lengths.{three_fields_long}
use Rattle.saved_scene.proofs.rows.put_place.Goals as goal

pub put_coordinate-next-requires : goal.put_coordinate-next-requires
put_coordinate-next-requires c = record { i_in_bounds = (omega arith, c.requires.i_in_bounds.1); pos_in_bounds = omega (arith, three_fields_long c.args.positions.now c.args.i) }

pub put_coordinate-next-requires-2 : goal.put_coordinate-next-requires-2
put_coordinate-next-requires-2 c = record { i_in_bounds = (omega arith, c.requires.i_in_bounds.1); pos_in_bounds = omega (arith, three_fields_long c.args.positions.now c.args.i) }

pub put_coordinate-requires : goal.put_coordinate-requires
put_coordinate-requires c = record { i_in_bounds = (omega arith, c.requires.i_in_bounds.1); pos_in_bounds = omega (arith, three_fields_long c.args.positions.now c.args.i) }

pub returns : goal.returns
returns c = wrote_then (wrote_then c.put_coordinate-next.ensures c.put_coordinate-next-2.ensures) c.put_coordinate.ensures

use native.Mathlib.Omega.{arith}
use Rattle.saved_scene.specs.Lengths.{fields_next, fields_none}
use Rattle.saved_scene.proofs.lengths.coordinates_length.Goals as goal

pub coordinate_length-total-requires : goal.coordinate_length-total-requires
coordinate_length-total-requires c = (omega arith, c.requires.1)

pub overflow_add-total : goal.overflow_add-total
overflow_add-total c = omega (arith, c.loop-i.invariant, c.coordinate_length-total.ensures)

pub loop-i-preserved : goal.loop-i-preserved
loop-i-preserved c =
    let here = c.coordinate_length-total.ensures in
    (omega (arith, c.loop-i.invariant, here, fields_next c.args.positions.now c.loop-i.i (omega arith)), omega (arith, c.loop-i.invariant, here))

pub returns : goal.returns
returns c = (omega (arith, c.loop-i.invariant, fields_none c.args.positions.now c.loop-i.i (omega arith)), omega (arith, c.loop-i.invariant))

use native.Mathlib.Omega.{arith}
use Rattle.saved_scene.specs.Shaped.{shaped, text_long}
use Rattle.saved_scene.proofs.lengths.text_length.Goals as goal

pub coordinates_length-vertices-requires : goal.coordinates_length-vertices-requires
coordinates_length-vertices-requires c = ((shaped c.requires).few_positions, (shaped c.requires).coordinates)

pub numbers_length-ends-requires : goal.numbers_length-ends-requires
numbers_length-ends-requires c = (shaped c.requires).few_ends

pub numbers_length-corners-requires : goal.numbers_length-corners-requires
numbers_length-corners-requires c = omega (arith, (shaped c.requires).few_corners)

pub numbers_length-sewn-requires : goal.numbers_length-sewn-requires
numbers_length-sewn-requires c = omega (arith, (shaped c.requires).few_sewn)

pub returns : goal.returns
returns c =
    let h = shaped c.requires in
    omega (arith, text_long h, c.coordinates_length-vertices.ensures.0, c.numbers_length-ends.ensures.0, c.numbers_length-corners.ensures.0, c.numbers_length-sewn.ensures.0)

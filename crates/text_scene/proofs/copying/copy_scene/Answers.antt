-- `copying::copy_scene` meets its contract: four copies, each of one buffer.
use native.Mathlib.Omega.{arith}
use Rattle.text_scene.proofs.copying.copy_scene.Goals as goal

pub copy_numbers-requires-3 : goal.copy_numbers-requires-3
copy_numbers-requires-3 c = (omega (arith, c.requires.bounded.seams, c.requires.roomy.seams), omega (arith, c.requires.bounded.seams, c.requires.roomy_2.seams))

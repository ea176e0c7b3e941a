use borrow.Author.Rules.{rules}
use lib.Ieee.{div, of_int, of_bits}
use Rattle.cutting.specs.Floats.{handed_out}
use Rattle.cutting.proofs.handed_out.Goals as goal

pub returns : goal.returns
unfolding div handed_out of_int of_bits
returns c = search rules

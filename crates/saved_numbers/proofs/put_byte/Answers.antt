use borrow.Author.Rules.{rules}
use native.Mathlib.Omega.{arith}
use Rattle.sequences.specs.Wrote.{wrote_one}
use Rattle.saved_numbers.proofs.put_byte.Goals as goal

-- src/lib.rt:13:1
pub returns : goal.returns
returns c = wrote_one _ _ _ (omega arith)

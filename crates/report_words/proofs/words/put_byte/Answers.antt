use borrow.Author.Rules.{rules}
use native.Mathlib.Omega.{arith}
use Rattle.sequences.specs.Wrote.{wrote_one}
use Rattle.report_words.proofs.words.put_byte.Goals as goal

-- src/words.rt:10:1
pub returns : goal.returns
returns c = wrote_one _ _ _ (omega arith)

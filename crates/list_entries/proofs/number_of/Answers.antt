-- `number_of`: the kind's part is at most the step of a kind, so that the sum fits 32 bits.
use borrow.Author.Rules.{rules}
use native.Mathlib.Omega.{arith}
use Rattle.meaning.specs.List.{number}
use Rattle.list_entries.specs.Entries.{kind_small}
use Rattle.list_entries.proofs.number_of.Goals as goal

pub overflow_add-result : goal.overflow_add-result
overflow_add-result c = omega (arith, c.kind_part.ensures, kind_small c.args.kind, c.requires)

pub overflow_add-result-2 : goal.overflow_add-result-2
overflow_add-result-2 c = omega (arith, c.kind_part.ensures, kind_small c.args.kind, c.requires)

pub returns : goal.returns
unfolding number
returns c = omega (arith, c.kind_part.ensures, c.requires)

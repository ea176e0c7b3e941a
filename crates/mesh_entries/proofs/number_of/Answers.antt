-- `number_of`: the kind's part is at most 2^63, so that the sum has 64 bits.
use borrow.Author.Rules.{rules}
use native.Mathlib.Omega.{arith}
use Rattle.meaning.specs.List.{pair}
use Rattle.mesh_laws.specs.Entries.{kind_small, mesh_number_is}
use Rattle.mesh_entries.proofs.number_of.Goals as goal

pub overflow_add-result : goal.overflow_add-result
overflow_add-result c = omega (arith, c.kind_part.ensures, kind_small c.args.kind, c.requires)

pub overflow_add-result-2 : goal.overflow_add-result-2
overflow_add-result-2 c = omega (arith, c.kind_part.ensures, kind_small c.args.kind, c.requires)

pub returns : goal.returns
returns c =
    let a = c.args in
    omega (arith, c.kind_part.ensures, c.requires, mesh_number_is (pair a.kind a.first a.second))

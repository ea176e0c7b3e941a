use borrow.Author.Rules.{rules}
use mathlib.Core.Path.{◌∙◌}
use Rattle.exact_signs.specs.Sums.{above_test}
use Rattle.exact_signs.proofs.at_least_zero.Goals as goal

pub returns : goal.returns
returns c = let s = c.args.s in search rules ∙ above_test s.two s.against

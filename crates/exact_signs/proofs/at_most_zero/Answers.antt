use borrow.Author.Rules.{rules}
use mathlib.Core.Path.{◌∙◌}
use Rattle.exact_signs.specs.Sums.{below_test}
use Rattle.exact_signs.proofs.at_most_zero.Goals as goal

pub returns : goal.returns
returns c = let s = c.args.s in search rules ∙ below_test s.two s.against

use borrow.Author.Rules.{rules}
use mathlib.Core.Path.{◌∙◌}
use Rattle.exact_signs.specs.BySignsLaws.{tells}
use Rattle.exact_signs.proofs.edge_verdict.Goals as goal

pub returns : goal.returns
returns c = c.verdict_of.ensures ∙ tells c.edge_signs.ensures

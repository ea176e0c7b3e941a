use borrow.Author.Rules.{rules}
use mathlib.Core.Path.{◌∙◌, ap}
use Rattle.exact_signs.specs.BySigns.{sum}
use Rattle.exact.specs.Volumes.{holds_small, holds_same}
use Rattle.exact_signs.proofs.sum_where.Goals as goal

pub sum_of-requires : goal.sum_of-requires
sum_of-requires c = holds_small c.keep_where.ensures

pub returns : goal.returns
returns c = c.sum_of.ensures ∙ ap sum (holds_same c.keep_where.ensures)

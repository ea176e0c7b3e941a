use borrow.Author.Rules.{rules}
use mir.Syntax.{w64}
use Rattle.whole.proofs.Sizes.{back}
use Rattle.exact.proofs.Products.{product_fits, two_products, two_fit}
use Rattle.exact.proofs.minor.Goals as goal

pub overflow_mul-result : goal.overflow_mul-result
overflow_mul-result c = product_fits c.difference.ensures c.difference-2.ensures

pub overflow_mul-result-2 : goal.overflow_mul-result-2
overflow_mul-result-2 c = product_fits c.difference-3.ensures c.difference-4.ensures

pub overflow_sub-result : goal.overflow_sub-result
overflow_sub-result c = two_fit c.difference.ensures c.difference-2.ensures c.difference-3.ensures c.difference-4.ensures

pub returns : goal.returns
returns c = back w64 (two_products c.difference.ensures c.difference-2.ensures c.difference-3.ensures c.difference-4.ensures) tt

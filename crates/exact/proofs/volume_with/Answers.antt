use borrow.Author.Rules.{rules}
use Rattle.exact.proofs.Products.{cofactor_fits, two_cofactors_fit, three_fit, volume_is_with}
use Rattle.exact.proofs.volume_with.Goals as goal

pub overflow_mul-result : goal.overflow_mul-result
overflow_mul-result c = cofactor_fits c.difference.ensures c.requires.1.small_yz

pub overflow_mul-result-2 : goal.overflow_mul-result-2
overflow_mul-result-2 c = cofactor_fits c.difference-2.ensures c.requires.1.small_xz

pub overflow_sub-result : goal.overflow_sub-result
overflow_sub-result c =
    let p = c.requires.1 in
    two_cofactors_fit c.difference.ensures c.difference-2.ensures p.small_yz p.small_xz

pub overflow_mul-result-3 : goal.overflow_mul-result-3
overflow_mul-result-3 c = cofactor_fits c.difference-3.ensures c.requires.1.small_xy

pub overflow_add-result : goal.overflow_add-result
overflow_add-result c =
    let p = c.requires.1 in
    three_fit c.difference.ensures c.difference-2.ensures c.difference-3.ensures p.small_yz p.small_xz p.small_xy

pub returns : goal.returns
returns c = volume_is_with c.args.m _ c.difference.ensures c.difference-2.ensures c.difference-3.ensures

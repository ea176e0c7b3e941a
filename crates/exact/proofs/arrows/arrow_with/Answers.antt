use Rattle.exact.specs.Arrows.{vector_of}
use Rattle.exact.proofs.Products.{cofactor_fits, two_cofactors_fit, three_fit, volume_is_with}
use Rattle.exact.proofs.arrows.arrow_with.Goals as goal

pub overflow_mul-result : goal.overflow_mul-result
overflow_mul-result c = let p = c.requires in cofactor_fits p.0.is_x p.1.small_yz

pub overflow_mul-result-2 : goal.overflow_mul-result-2
overflow_mul-result-2 c = let p = c.requires in cofactor_fits p.0.is_y p.1.small_xz

pub overflow_sub-result : goal.overflow_sub-result
overflow_sub-result c = let p = c.requires in two_cofactors_fit p.0.is_x p.0.is_y p.1.small_yz p.1.small_xz

pub overflow_mul-result-3 : goal.overflow_mul-result-3
overflow_mul-result-3 c = let p = c.requires in cofactor_fits p.0.is_z p.1.small_xy

pub overflow_add-result : goal.overflow_add-result
overflow_add-result c = let p = c.requires in three_fit p.0.is_x p.0.is_y p.0.is_z p.1.small_yz p.1.small_xz p.1.small_xy

pub returns : goal.returns
returns c =
    let e = c in
    volume_is_with e.args.m (vector_of e.args.a) e.requires.0.is_x e.requires.0.is_y e.requires.0.is_z

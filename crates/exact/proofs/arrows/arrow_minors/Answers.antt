use mir.Syntax.{w64}
use Rattle.whole.proofs.Sizes.{back}
use Rattle.exact.specs.Arrows.{arrow_short}
use Rattle.exact.proofs.Products.{product_fits, two_products, two_fit}
use Rattle.exact.proofs.arrows.arrow_minors.Goals as goal

pub overflow_mul-yz : goal.overflow_mul-yz
overflow_mul-yz c = let p = c.requires in product_fits p.0.is_y p.1.is_z

pub overflow_mul-yz-2 : goal.overflow_mul-yz-2
overflow_mul-yz-2 c = let p = c.requires in product_fits p.0.is_z p.1.is_y

pub overflow_sub-yz : goal.overflow_sub-yz
overflow_sub-yz c = let p = c.requires in two_fit p.0.is_y p.1.is_z p.0.is_z p.1.is_y

pub overflow_mul-xz : goal.overflow_mul-xz
overflow_mul-xz c = let p = c.requires in product_fits p.0.is_x p.1.is_z

pub overflow_mul-xz-2 : goal.overflow_mul-xz-2
overflow_mul-xz-2 c = let p = c.requires in product_fits p.0.is_z p.1.is_x

pub overflow_sub-xz : goal.overflow_sub-xz
overflow_sub-xz c = let p = c.requires in two_fit p.0.is_x p.1.is_z p.0.is_z p.1.is_x

pub overflow_mul-xy : goal.overflow_mul-xy
overflow_mul-xy c = let p = c.requires in product_fits p.0.is_x p.1.is_y

pub overflow_mul-xy-2 : goal.overflow_mul-xy-2
overflow_mul-xy-2 c = let p = c.requires in product_fits p.0.is_y p.1.is_x

pub overflow_sub-xy : goal.overflow_sub-xy
overflow_sub-xy c = let p = c.requires in two_fit p.0.is_x p.1.is_y p.0.is_y p.1.is_x

pub returns : goal.returns
returns c =
    let p = c.requires in
    record {
      former = arrow_short p.0;
      latter = arrow_short p.1;
      is_yz = back w64 (two_products p.0.is_y p.1.is_z p.0.is_z p.1.is_y) tt;
      is_xz = back w64 (two_products p.0.is_x p.1.is_z p.0.is_z p.1.is_x) tt;
      is_xy = back w64 (two_products p.0.is_x p.1.is_y p.0.is_y p.1.is_x) tt;
    }

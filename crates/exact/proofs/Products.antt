-- Products of differences and minors as the machine forms them, each within a bound that 64 bits hold.
use Prim.Native.Nat.{ℕ, ◌*◌}
use lib.IntN.{ℤ, ◌+ℤ◌, ◌-ℤ◌, ◌*ℤ◌}
use mir.Syntax.{w64}
use mir.Val.{SFits}
use Rattle.whole.specs.Vector.{Vector, volume}
use Rattle.whole.specs.Sizes.{Is, held}
use Rattle.whole.proofs.Sizes.{is_add, is_sub, is_mul, fits, back}
use Rattle.exact.specs.Limits.{difference_limit, determinant_limit}
use Rattle.exact.specs.Places.{Short, along}
use Rattle.exact.specs.Bounds.{volume_within}
use Rattle.exact.specs.Minors.{minor_limit, MinorsOf, SmallMinors, VolumeWith}
use Rattle.exact.specs.declared.Minors.{Minors}

-- two numbers multiplied, taken one from the other, and added, as their locals hold them
abbrev pub times : ℤ → ℤ → ℤ
times a b = held w64 a *ℤ held w64 b

abbrev pub less : ℤ → ℤ → ℤ
less a b = held w64 a -ℤ held w64 b

abbrev pub more : ℤ → ℤ → ℤ
more a b = held w64 a +ℤ held w64 b

abbrev pub Near : ℤ → ℤ → Type 0
Near = Is difference_limit

-- ---- a minor

module _ {u v a b : ℤ} (p : Near u a) (q : Near v b) where
  pub product : Is (difference_limit * difference_limit) (times u v) (a *ℤ b)
  product = is_mul (back w64 p tt) (back w64 q tt)

  pub product_fits : SFits w64 (times u v)
  product_fits = fits w64 product tt

module _ {u v w x a b c d : ℤ} (p : Near u a) (q : Near v b) (r : Near w c) (s : Near x d) where
  pub two_products : Is minor_limit (less (times u v) (times w x)) (a *ℤ b -ℤ c *ℤ d)
  two_products = is_sub (back w64 (product p q) tt) (back w64 (product r s) tt)

  pub two_fit : SFits w64 (less (times u v) (times w x))
  two_fit = fits w64 two_products tt

-- ---- a volume

abbrev cofactor_limit : ℕ
cofactor_limit = difference_limit * minor_limit

module _ {u m a n : ℤ} (p : Near u a) (q : Is minor_limit m n) where
  pub cofactor : Is cofactor_limit (times u m) (a *ℤ n)
  cofactor = is_mul (back w64 p tt) (back w64 q tt)

  pub cofactor_fits : SFits w64 (times u m)
  cofactor_fits = fits w64 cofactor tt

module _ {u v k l a b m n : ℤ} (p : Near u a) (q : Near v b) (r : Is minor_limit k m) (s : Is minor_limit l n) where
  pub two_cofactors : Is (2 * cofactor_limit) (less (times u k) (times v l)) (a *ℤ m -ℤ b *ℤ n)
  two_cofactors = is_sub (back w64 (cofactor p r) tt) (back w64 (cofactor q s) tt)

  pub two_cofactors_fit : SFits w64 (less (times u k) (times v l))
  two_cofactors_fit = fits w64 two_cofactors tt

module _ {u v w k l h a b c m n o : ℤ} (p : Near u a) (q : Near v b) (r : Near w c) (s : Is minor_limit k m) (t : Is minor_limit l n) (z : Is minor_limit h o) where
  three : Is (3 * cofactor_limit) (more (less (times u k) (times v l)) (times w h)) (a *ℤ m -ℤ b *ℤ n +ℤ c *ℤ o)
  three = is_add (back w64 (two_cofactors p q s t) tt) (back w64 (cofactor r z) tt)

  pub three_fit : SFits w64 (more (less (times u k) (times v l)) (times w h))
  three_fit = fits w64 three tt

  pub three_back : Is (3 * cofactor_limit) (held w64 (more (less (times u k) (times v l)) (times w h))) (a *ℤ m -ℤ b *ℤ n +ℤ c *ℤ o)
  three_back = back w64 three tt

-- the sum of the three is the volume, whose own bound is a determinant's
module _ (m : Minors) (c : Vector) {u v w : ℤ} (p : Near u c.x) (q : Near v c.y) (r : Near w c.z) where
  pub volume_is_with : VolumeWith m c (held w64 (more (less (times u m.yz) (times v m.xz)) (times w m.xy)))
  unfolding volume
  volume_is_with = record {
    volume_of = λ a b h. record {
      same = (three_back p q r h.is_yz h.is_xz h.is_xy).same;
      within = volume_within short h.former h.latter;
    };
  }
    where
      short : Short difference_limit c
      short = record { in_x = p.within; in_y = q.within; in_z = r.within }

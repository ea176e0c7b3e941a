-- Two products of coordinates, and what is left of them, fit 64 bits.
use Prim.Native.Nat.{◌*◌}
use lib.IntN.{ℤ, ◌-ℤ◌, ◌*ℤ◌}
use mir.Syntax.{w64}
use Rattle.whole.specs.Sizes.{Is, held}
use Rattle.whole.proofs.Sizes.{is_sub, is_mul, fits, back}
use Rattle.exact.specs.Limits.{difference_limit}
use Rattle.exact.specs.Minors.{minor_limit}
use Rattle.corner_sides.proofs.cross.Goals as goal

-- a product of two coordinates, and the difference of two such, as their locals hold them
product : {u v : ℤ} → Is difference_limit u u → Is difference_limit v v → Is (difference_limit * difference_limit) (held w64 u *ℤ held w64 v) (u *ℤ v)
product p q = is_mul (back w64 p tt) (back w64 q tt)

two : {a b c d : ℤ} → Is difference_limit a a → Is difference_limit b b → Is difference_limit c c → Is difference_limit d d
    → Is minor_limit (held w64 (held w64 a *ℤ held w64 b) -ℤ held w64 (held w64 c *ℤ held w64 d)) (a *ℤ b -ℤ c *ℤ d)
two p q r s = is_sub (back w64 (product p q) tt) (back w64 (product r s) tt)

pub overflow_mul-result : goal.overflow_mul-result
overflow_mul-result c = let p = c.requires in fits w64 (product p.0.short_x p.1.short_y) tt

pub overflow_mul-result-2 : goal.overflow_mul-result-2
overflow_mul-result-2 c = let p = c.requires in fits w64 (product p.0.short_y p.1.short_x) tt

pub overflow_sub-result : goal.overflow_sub-result
overflow_sub-result c = let p = c.requires in fits w64 (two p.0.short_x p.1.short_y p.0.short_y p.1.short_x) tt

pub returns : goal.returns
returns c = let p = c.requires in back w64 (two p.0.short_x p.1.short_y p.0.short_y p.1.short_x) tt

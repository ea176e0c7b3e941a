-- Of `Sizes`: what rests on its definitions.
use Rattle.std.specs.Prelude.{ℕ, ◌+◌, ◌*◌, ◌^◌, ◌≤◌, T, ltb, ℤ, pos, negsuc, neg_ℤ, nat_abs, ◌+ℤ◌, ◌-ℤ◌, ◌*ℤ◌}
use Rattle.std.proofs.Common.{◌∙◌, mul-le-mul, lt_of_le_of_lt, le_trans, le_refl, arith, ltb→lt, to_z-of_z}
use Rattle.std.specs.Int.Signed.{mag}
use Rattle.std.specs.Int.{Width}
use mir.Val.{SFits, hbits}
use Rattle.whole.specs.Signs.{nat_abs_neg, nat_abs_mul}
use Rattle.whole.specs.Sizes.{Within, Is, nat_abs_add, held}

module _ {a b : ℕ} {x y : ℤ} (p : Within a x) (q : Within b y) where
  pub within_add : Within (a + b) (x +ℤ y)
  within_add = record { size = omega (arith, nat_abs_add x y) }

  pub within_sub : Within (a + b) (x -ℤ y)
  within_sub = record { size = omega (arith, nat_abs_add x (neg_ℤ y), nat_abs_neg y) }

  pub within_mul : Within (a * b) (x *ℤ y)
  within_mul = record { size = rw nat_abs_mul (mul-le-mul p.size q.size) }

pub within_wider : {a b : ℕ} {x : ℤ} → a ≤ b → Within a x → Within b x
within_wider h p = record { size = le_trans p.size h }

module _ {a b : ℕ} {u v x y : ℤ} (p : Is a u x) (q : Is b v y) where
  pub is_add : Is (a + b) (u +ℤ v) (x +ℤ y)
  is_add = record { same = rw (p.same, q.same); within = within_add p.within q.within }

  pub is_sub : Is (a + b) (u -ℤ v) (x -ℤ y)
  is_sub = record { same = rw (p.same, q.same); within = within_sub p.within q.within }

  pub is_mul : Is (a * b) (u *ℤ v) (x *ℤ y)
  is_mul = record { same = rw (p.same, q.same); within = within_mul p.within q.within }

module _ {a : ℕ} {u x : ℤ} (p : Is a u x) where
  pub is_wider : {b : ℕ} → a ≤ b → Is b u x
  is_wider h = record { same = p.same; within = within_wider h p.within }

pub within_fits : (w : Width) {b : ℕ} {z : ℤ} → Within b z → T (ltb b (2 ^ hbits w)) → SFits w z
within_fits w {b} {z} h t =
    record { sfits = lt_of_le_of_lt (le_trans (mag_le z) h.size) (ltb→lt b (2 ^ hbits w) t) }
  where
    mag_le : (z : ℤ) → mag z ≤ nat_abs z
    mag_le (pos n) = le_refl n
    mag_le (negsuc n) = omega arith

module _ (w : Width) {b : ℕ} {v z : ℤ} (p : Is b v z) (t : T (ltb b (2 ^ hbits w))) where
  pub fits : SFits w v
  fits = rw p.same (within_fits w p.within t)

  pub back : Is b (held w v) z
  back = record { same = to_z-of_z fits ∙ p.same; within = p.within }

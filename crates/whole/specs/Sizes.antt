-- How large a whole number can be, carried beside it. A promise `Is b v z` of a machine's number gives its meaning and its
-- bound in one, so that a sum or product of such numbers is shown to fit by its bound alone.
use Rattle.std.specs.Prelude.{◌≡◌, refl, Bool, true, false, cond, ℕ, suc, ◌+◌, ◌≤◌, ◌<◌, ltb, ℤ, pos, negsuc, neg_ℤ, nat_abs, ◌+ℤ◌}
use Rattle.std.proofs.Common.{le_refl, arith}
use Rattle.std.specs.Int.{Width}
use mir.Val.{to_z, of_z}
use Rattle.whole.specs.Signs.{nat_abs_neg}

-- z is at most b in size
pub record Within (b : ℕ) (z : ℤ) : Type 0 where
  pub size : nat_abs z ≤ b

-- the machine's number v is z, and z is at most b in size
pub record Is (b : ℕ) (v z : ℤ) : Type 0 where
  pub same : v ≡ z
  pub within : Within b z

-- ---- the size of a sum, a negation, a difference, a product

either : (c : Bool) (m n k : ℕ) → m < k → n ≤ k → nat_abs (cond c (negsuc m) (pos n)) ≤ k
either true m n k h g = h
either false m n k h g = g

pub nat_abs_add : (x y : ℤ) → nat_abs (x +ℤ y) ≤ nat_abs x + nat_abs y
nat_abs_add (pos a) (pos b) = le_refl (a + b)
nat_abs_add (pos a) (negsuc b) = either (ltb a (suc b)) _ _ _ (omega arith) (omega arith)
nat_abs_add (negsuc a) (pos b) = either (ltb b (suc a)) _ _ _ (omega arith) (omega arith)
nat_abs_add (negsuc a) (negsuc b) = omega arith

pub within_neg : {a : ℕ} {x : ℤ} → Within a x → Within a (neg_ℤ x)
within_neg {x = x} p = record { size = rw nat_abs_neg p.size }

-- ---- the same of the machine's numbers

module _ {a : ℕ} {u x : ℤ} (p : Is a u x) where
  pub is_neg : Is a (neg_ℤ u) (neg_ℤ x)
  is_neg = record { same = rw p.same; within = within_neg p.within }

pub is_equal : {a : ℕ} {u x y : ℤ} → x ≡ y → Is a u x → Is a u y
is_equal e p = rw e at p

-- the machine's number is within the bound too
pub is_self : {a : ℕ} {u x : ℤ} → Is a u x → Is a u u
is_self p = record { same = refl; within = rw p.same p.within }

pub is_exact : {a : ℕ} {x : ℤ} → Within a x → Is a x x
is_exact h = record { same = refl; within = h }

-- ---- and of a width's bits

-- z written to a local of w's bits and read from there
abbrev pub held : Width → ℤ → ℤ
held w z = to_z w (of_z w z)

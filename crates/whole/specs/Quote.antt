-- One line for an identity of the ring: `search` writes the expression that stands for a number, and the normaliser does the
-- rest. (A number `pos n` with a variable n is read as a constant: state the identity over ℤ first, then use it there.)
-- `combine` does the same for an equation that follows from others, each times a factor.
use Rattle.std.specs.Prelude.{◌≡◌, refl, List, [], ◌∷◌, ℕ, zero, suc, ℤ, pos, negsuc, neg_ℤ, ◌+ℤ◌, ◌-ℤ◌, ◌*ℤ◌}
use Rattle.std.proofs.Common.{sym, ◌∙◌, ap}
use Rattle.std.proofs.Math.IntN.{+ℤ_idl, *ℤ-zero}
use Rattle.whole.specs.Laws.{minus_self, equal_of_minus}
use Rattle.whole.specs.Ring.{Expr, con, var, add, mul, neg, Poly, nil, at, eval, norm, solve}

-- an expression that is worth the number a at the environment e
pub record Q (e : List ℤ) (a : ℤ) : Type 0 where
  pub expr : Expr
  pub is : eval e expr ≡ a

-- a place of the environment where the number a stands
pub record At (e : List ℤ) (a : ℤ) : Type 0 where
  pub place : ℕ
  pub is : at e place ≡ a

abbrev pub here : {e : List ℤ} (a : ℤ) → At (a ∷ e) a
here a = record { place = zero; is = refl }

abbrev pub there : {e : List ℤ} {b : ℤ} (a : ℤ) → At e a → At (b ∷ e) a
there a p = record { place = suc p.place; is = p.is }

module _ {e : List ℤ} where
  abbrev pub qadd : (a b : ℤ) → Q e a → Q e b → Q e (a +ℤ b)
  qadd a b p q = record { expr = add p.expr q.expr; is = λ i. p.is i +ℤ q.is i }

  abbrev pub qmul : (a b : ℤ) → Q e a → Q e b → Q e (a *ℤ b)
  qmul a b p q = record { expr = mul p.expr q.expr; is = λ i. p.is i *ℤ q.is i }

  abbrev pub qneg : (a : ℤ) → Q e a → Q e (neg_ℤ a)
  qneg a p = record { expr = neg p.expr; is = λ i. neg_ℤ (p.is i) }

  abbrev pub qpos : (n : ℕ) → Q e (pos n)
  qpos n = record { expr = con (pos n); is = refl }

  abbrev pub qnegsuc : (n : ℕ) → Q e (negsuc n)
  qnegsuc n = record { expr = con (negsuc n); is = refl }

  abbrev pub qvar : (a : ℤ) → At e a → Q e a
  qvar a p = record { expr = var p.place; is = p.is }

  abbrev pub poly : {a : ℤ} → Q e a → Poly
  poly q = norm q.expr

pub ruleset quotes = (qadd, qmul, qneg, qvar, here, there, qpos, qnegsuc)

-- an expression with no term is worth 0
pub vanishes : {e : List ℤ} {a : ℤ} (q : Q e a) → poly q ≡ nil → a ≡ pos 0
vanishes {e} q h = sym q.is ∙ solve e q.expr (con (pos 0)) h

pub ring : (e : List ℤ) {a b : ℤ} (q : Q e (a -ℤ b)) → poly q ≡ nil → a ≡ b
ring e {a} {b} q h = equal_of_minus a b (vanishes q h)

-- ---- equations from equations

-- a number known to be 0: the difference of two sides that are equal, times a factor
pub record Zero : Type 0 where
  pub worth : ℤ
  pub is : worth ≡ pos 0

abbrev pub times : ℤ → {a b : ℤ} → a ≡ b → Zero
times c {a} {b} h = record { worth = c *ℤ (a -ℤ b); is = ap (λ x. c *ℤ x) (minus_self h) ∙ *ℤ-zero c }

abbrev pub sum : List Zero → ℤ
sum [] = pos 0
sum (z ∷ zs) = z.worth +ℤ sum zs

sum_is : (zs : List Zero) → sum zs ≡ pos 0
sum_is [] = refl
sum_is (z ∷ zs) = ap (λ x. x +ℤ sum zs) z.is ∙ +ℤ_idl (sum zs) ∙ sum_is zs

-- l ≡ r holds if l - r is the sum of the c (a - b), over the equations a ≡ b, each with its factor c
pub combine : (e : List ℤ) {l r : ℤ} (zs : List Zero) (q : Q e (l -ℤ r -ℤ sum zs)) → poly q ≡ nil → l ≡ r
combine e {l} {r} zs q h =
    equal_of_minus l r (equal_of_minus (l -ℤ r) (sum zs) (vanishes q h) ∙ sum_is zs)

-- ---- shown at work

square_of_sum : (a b : ℤ) → (a +ℤ b) *ℤ (a +ℤ b) ≡ a *ℤ a +ℤ pos 2 *ℤ (a *ℤ b) +ℤ b *ℤ b
square_of_sum a b = ring (a ∷ b ∷ []) (search quotes depth 40 fits 9000) refl

from_two_equations : (x y a b : ℤ) → x +ℤ y ≡ a → x -ℤ y ≡ b → a *ℤ a -ℤ b *ℤ b ≡ pos 4 *ℤ (x *ℤ y)
from_two_equations x y a b h k =
    combine (x ∷ y ∷ a ∷ b ∷ []) (times (neg_ℤ (x +ℤ y +ℤ a)) h ∷ times (x -ℤ y +ℤ b) k ∷ []) (search quotes depth 40 fits 9000) refl

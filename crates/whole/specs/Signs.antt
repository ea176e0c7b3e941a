-- The sign of a whole number: negative, nought or positive. What 'w D = W E with W above 0 and D not 0' says of signs is
-- decided here, by finite cases.
use Rattle.std.specs.Prelude.{◌≡◌, refl, ◌≢◌, ◌↔◌, Bool, true, false, not, ◌&&◌, ℕ, zero, suc, ◌*◌, ◌<◌, T, ℤ, pos, negsuc, neg_ℤ, nat_abs, ◌-ℤ◌, ◌*ℤ◌, ◌≤ℤ◌, ◌<ℤ◌}
use Rattle.std.proofs.Common.{sym, ap, ◌∙◌, subst, suc-mul, add-suc, zero-mul, mul-zero, arith, T_not}
use Rattle.std.proofs.Math.Nat.{eq_of_mul-eq-mul_left}
use Rattle.std.proofs.Math.Dec.{not_T, leb-zero, leb-suc-zero, leb-suc-suc}
use Rattle.std.proofs.Math.IntN.{+ℤ_idl}
use Rattle.std.specs.Int.Signed.{non_neg, lt_z, le_z}

pub data Sgn : Type 0 where
  negative : Sgn
  nought : Sgn
  positive : Sgn

abbrev pub sgn : ℤ → Sgn
sgn (pos zero) = nought
sgn (pos (suc n)) = positive
sgn (negsuc n) = negative

abbrev pub opposite : Sgn → Sgn
opposite negative = positive
opposite nought = nought
opposite positive = negative

-- the sign of a product
infixl 7 ◌·◌
abbrev pub ◌·◌ : Sgn → Sgn → Sgn
positive · t = t
nought · t = nought
negative · t = opposite t

-- ---- the sign of a negation and of a product

pub sgn_neg : (a : ℤ) → sgn (neg_ℤ a) ≡ opposite (sgn a)
sgn_neg (pos zero) = refl
sgn_neg (pos (suc n)) = refl
sgn_neg (negsuc n) = refl

sgn_product : (a b : ℕ) → sgn (pos (a * b)) ≡ sgn (pos a) · sgn (pos b)
sgn_product zero b = rw zero-mul
sgn_product (suc a) zero = rw mul-zero
sgn_product (suc a) (suc b) = simp (suc-mul, add-suc)

opposite_right : (s : Sgn) → opposite (s · positive) ≡ s · negative
opposite_right negative = refl
opposite_right nought = refl
opposite_right positive = refl

pub sgn_mul : (a b : ℤ) → sgn (a *ℤ b) ≡ sgn a · sgn b
sgn_mul (pos a) (pos b) = sgn_product a b
sgn_mul (pos a) (negsuc b) =
    sgn_neg (pos (a * suc b)) ∙ ap opposite (sgn_product a (suc b)) ∙ opposite_right (sgn (pos a))
sgn_mul (negsuc a) (pos b) = sgn_neg (pos (suc a * b)) ∙ ap opposite (sgn_product (suc a) b)
sgn_mul (negsuc a) (negsuc b) = sgn_product (suc a) (suc b)

-- ---- the sign and the order

pub nought_is : (z : ℤ) → (sgn z ≡ nought) ↔ (z ≡ pos 0)
nought_is (pos zero) = (λ e. refl, λ e. refl)
nought_is (pos (suc n)) = (λ e. cc, λ e. ap sgn e)
nought_is (negsuc n) = (λ e. cc, λ e. ap sgn e)

abbrev pub is_negative : Sgn → Bool
is_negative negative = true
is_negative nought = false
is_negative positive = false

abbrev pub is_nought : Sgn → Bool
is_nought negative = false
is_nought nought = true
is_nought positive = false

abbrev pub is_positive : Sgn → Bool
is_positive s = is_negative (opposite s)

-- what a comparison with 0 computes
pub le_nought : (z : ℤ) → le_z z (pos 0) ≡ not (is_positive (sgn z))
le_nought (pos zero) = refl
le_nought (pos (suc n)) = leb-suc-zero n
le_nought (negsuc n) = refl

pub nought_le : (z : ℤ) → le_z (pos 0) z ≡ not (is_negative (sgn z))
nought_le (pos zero) = refl
nought_le (pos (suc n)) = leb-zero (suc n)
nought_le (negsuc n) = refl

pub lt_nought : (z : ℤ) → lt_z z (pos 0) ≡ is_negative (sgn z)
lt_nought (pos zero) = refl
lt_nought (pos (suc n)) = leb-suc-zero (suc n)
lt_nought (negsuc n) = refl

pub nought_lt : (z : ℤ) → lt_z (pos 0) z ≡ is_positive (sgn z)
nought_lt (pos zero) = refl
nought_lt (pos (suc n)) = leb-suc-suc 0 n ∙ leb-zero n
nought_lt (negsuc n) = refl

-- what these Bools mean
pub is_negative_is : (s : Sgn) → T (is_negative s) ↔ (s ≡ negative)
is_negative_is negative = (λ t. refl, λ e. tt)
is_negative_is nought = (λ t. absurd t, λ e. subst (λ s. T (is_negative s)) (sym e) tt)
is_negative_is positive = (λ t. absurd t, λ e. subst (λ s. T (is_negative s)) (sym e) tt)

pub is_nought_is : (s : Sgn) → T (is_nought s) ↔ (s ≡ nought)
is_nought_is nought = (λ t. refl, λ e. tt)
is_nought_is negative = (λ t. absurd t, λ e. subst (λ s. T (is_nought s)) (sym e) tt)
is_nought_is positive = (λ t. absurd t, λ e. subst (λ s. T (is_nought s)) (sym e) tt)

pub is_positive_is : (s : Sgn) → T (is_positive s) ↔ (s ≡ positive)
is_positive_is positive = (λ t. refl, λ e. tt)
is_positive_is nought = (λ t. absurd t, λ e. subst (λ s. T (is_positive s)) (sym e) tt)
is_positive_is negative = (λ t. absurd t, λ e. subst (λ s. T (is_positive s)) (sym e) tt)

-- a number is nought exactly when the two tests hold that code makes of it
pub zero_test : (z : ℤ) → le_z z (pos 0) && le_z (pos 0) z ≡ is_nought (sgn z)
zero_test z = simp (le_nought, nought_le) (both (sgn z))
  where
    both : (s : Sgn) → not (is_positive s) && not (is_negative s) ≡ is_nought s
    both negative = refl
    both nought = refl
    both positive = refl

pub positive_is : (z : ℤ) → (sgn z ≡ positive) ↔ (pos 0 <ℤ z)
positive_is z = (
  λ e. record { lt = rw nought_lt ((is_positive_is (sgn z)).1 e) },
  λ h. (is_positive_is (sgn z)).0 (rw nought_lt at h.lt),
)

pub negative_is : (z : ℤ) → (sgn z ≡ negative) ↔ (z <ℤ pos 0)
negative_is z = (
  λ e. record { lt = rw lt_nought ((is_negative_is (sgn z)).1 e) },
  λ h. (is_negative_is (sgn z)).0 (rw lt_nought at h.lt),
)

pub not_negative_is : (z : ℤ) → (sgn z ≢ negative) ↔ (pos 0 ≤ℤ z)
not_negative_is z = (
  λ n. record { le = rw nought_le (not_T (is_negative (sgn z)) (λ t. n ((is_negative_is (sgn z)).0 t))) },
  λ h e. T_not (is_negative (sgn z)) (rw nought_le at h.le) ((is_negative_is (sgn z)).1 e),
)

pub not_positive_is : (z : ℤ) → (sgn z ≢ positive) ↔ (z ≤ℤ pos 0)
not_positive_is z = (
  λ n. record { le = rw le_nought (not_T (is_positive (sgn z)) (λ t. n ((is_positive_is (sgn z)).0 t))) },
  λ h e. T_not (is_positive (sgn z)) (rw le_nought at h.le) ((is_positive_is (sgn z)).1 e),
)

-- ---- products that are 0, and cancelling

pub factor_zero : (a b : ℤ) → a *ℤ b ≡ pos 0 → a ≢ pos 0 → b ≡ pos 0
factor_zero a b e n =
    (nought_is b).0 (other (sgn a) (sgn b) (sym (sgn_mul a b) ∙ ap sgn e) (λ h. n ((nought_is a).0 h)))
  where
    other : (s t : Sgn) → s · t ≡ nought → s ≢ nought → t ≡ nought
    other positive t e n = e
    other nought t e n = absurd (n refl)
    other negative nought e n = refl
    other negative negative e n = cc
    other negative positive e n = cc

pub product_nonzero : (a b : ℤ) → a ≢ pos 0 → b ≢ pos 0 → a *ℤ b ≢ pos 0
product_nonzero a b m n e = n (factor_zero a b e m)

pub nat_abs_neg : (a : ℤ) → nat_abs (neg_ℤ a) ≡ nat_abs a
nat_abs_neg (pos zero) = refl
nat_abs_neg (pos (suc n)) = refl
nat_abs_neg (negsuc n) = refl

pub nat_abs_mul : (a b : ℤ) → nat_abs (a *ℤ b) ≡ nat_abs a * nat_abs b
nat_abs_mul (pos a) (pos b) = refl
nat_abs_mul (pos a) (negsuc b) = nat_abs_neg (pos (a * suc b))
nat_abs_mul (negsuc a) (pos b) = nat_abs_neg (pos (suc a * b))
nat_abs_mul (negsuc a) (negsuc b) = refl

-- a number taken from 0: its size is the same, and it is not negative where the number is
pub turned_size : (z : ℤ) → nat_abs (pos 0 -ℤ z) ≡ nat_abs z
turned_size z = ap nat_abs (+ℤ_idl (neg_ℤ z)) ∙ nat_abs_neg z

pub turned_up : (z : ℤ) → lt_z z (pos 0) ≡ true → T (non_neg (pos 0 -ℤ z))
turned_up z e = go z (sym (lt_nought z) ∙ e)
  where
    go : (z : ℤ) → is_negative (sgn z) ≡ true → T (non_neg (pos 0 -ℤ z))
    go (pos zero) h = tt
    go (pos (suc n)) h = absurd (subst T (sym h) tt)
    go (negsuc n) h = tt

pub not_down : (z : ℤ) → lt_z z (pos 0) ≡ false → T (non_neg z)
not_down z e = go z (sym (lt_nought z) ∙ e)
  where
    go : (z : ℤ) → is_negative (sgn z) ≡ false → T (non_neg z)
    go (pos n) h = tt
    go (negsuc n) h = subst T h tt

-- size and sign fix a number
pub same_number : (a b : ℤ) → nat_abs a ≡ nat_abs b → sgn a ≡ sgn b → a ≡ b
same_number (pos a) (pos b) e s = ap pos e
same_number (negsuc a) (negsuc b) e s = cc
same_number (pos zero) (negsuc b) e s = cc
same_number (pos (suc a)) (negsuc b) e s = cc
same_number (negsuc a) (pos zero) e s = cc
same_number (negsuc a) (pos (suc b)) e s = cc

pub nat_abs_positive : (k : ℤ) → k ≢ pos 0 → 0 < nat_abs k
nat_abs_positive (pos zero) n = absurd (n refl)
nat_abs_positive (pos (suc k)) n = omega arith
nat_abs_positive (negsuc k) n = omega arith

pub cancel : (k a b : ℤ) → k ≢ pos 0 → k *ℤ a ≡ k *ℤ b → a ≡ b
cancel k a b n e =
    same_number a b
    (eq_of_mul-eq-mul_left (nat_abs k) (nat_abs_positive k n) (nat_abs a) (nat_abs b)
    (sym (nat_abs_mul k a) ∙ ap nat_abs e ∙ nat_abs_mul k b))
    (alike (sgn k) (sgn a) (sgn b) (λ h. n ((nought_is k).0 h)) (sym (sgn_mul k a) ∙ ap sgn e ∙ sgn_mul k b))
  where
    turned : (s : Sgn) → opposite (opposite s) ≡ s
    turned negative = refl
    turned nought = refl
    turned positive = refl

    alike : (s t u : Sgn) → s ≢ nought → s · t ≡ s · u → t ≡ u
    alike positive t u n e = e
    alike nought t u n e = absurd (n refl)
    alike negative t u n e = sym (turned t) ∙ ap opposite e ∙ turned u

-- ---- agreeing in sign

-- e is 0 or has d's sign
pub data Agrees (d e : ℤ) : Type 0 where
  none : e ≡ pos 0 → Agrees d e
  alike : sgn e ≡ sgn d → Agrees d e

-- the same, computed from the two signs, d's first
abbrev pub agree : Sgn → Sgn → Bool
agree d nought = true
agree negative negative = true
agree nought negative = false
agree positive negative = false
agree negative positive = false
agree nought positive = false
agree positive positive = true

pub agree_is : (d e : ℤ) → T (agree (sgn d) (sgn e)) ↔ Agrees d e
agree_is d e = (λ t. to (sgn d) (sgn e) refl refl t, from)
  where
    to : (s t : Sgn) → s ≡ sgn d → t ≡ sgn e → T (agree s t) → Agrees d e
    to s nought p q t = none ((nought_is e).0 (sym q))
    to negative negative p q t = alike (sym q ∙ p)
    to positive positive p q t = alike (sym q ∙ p)
    to nought negative p q t = absurd t
    to positive negative p q t = absurd t
    to negative positive p q t = absurd t
    to nought positive p q t = absurd t

    self : (s : Sgn) → T (agree s s)
    self negative = tt
    self nought = tt
    self positive = tt

    from : Agrees d e → T (agree (sgn d) (sgn e))
    from (none p) = subst (λ z. T (agree (sgn d) (sgn z))) (sym p) tt
    from (alike p) = subst (λ s. T (agree (sgn d) s)) (sym p) (self (sgn d))

-- w D = W E with W above 0 and D not 0: w is not negative exactly when E agrees in sign with D
module _ (w D W E : ℤ) (e : w *ℤ D ≡ W *ℤ E) (above : pos 0 <ℤ W) (n : D ≢ pos 0) where
  pub sign_test : le_z (pos 0) w ≡ agree (sgn D) (sgn E)
  sign_test = nought_le w ∙ table (sgn w) (sgn D) (λ h. n ((nought_is D).0 h)) ∙ ap (agree (sgn D)) signs
    where
      signs : sgn w · sgn D ≡ sgn E
      signs = sym (sgn_mul w D) ∙ ap sgn e ∙ sgn_mul W E ∙ ap (λ s. s · sgn E) ((positive_is W).1 above)

      table : (s d : Sgn) → d ≢ nought → not (is_negative s) ≡ agree d (s · d)
      table s nought n = absurd (n refl)
      table positive positive n = refl
      table positive negative n = refl
      table nought positive n = refl
      table nought negative n = refl
      table negative positive n = refl
      table negative negative n = refl

  pub sign_transfer : (pos 0 ≤ℤ w) ↔ Agrees D E
  sign_transfer =
      (λ h. (agree_is D E).0 (rw sign_test at h.le), λ a. record { le = rw sign_test ((agree_is D E).1 a) })

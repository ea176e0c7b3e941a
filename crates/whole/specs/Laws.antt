-- The laws of the commutative ring ℤ that the library lacks: the product is associative and distributes over the sum.
-- All of them go by steps of one, up and down from 0.
use Rattle.std.specs.Prelude.{◌≡◌, refl, ◌≢◌, ℕ, zero, suc, ◌*◌, ℤ, pos, negsuc, neg_ℤ, nat_abs, ◌+ℤ◌, ◌-ℤ◌, ◌*ℤ◌}
use Rattle.std.proofs.Common.{sym, ◌∙◌, ap, arith}
use Rattle.std.proofs.Math.IntN.{suc_ℤ, pred_ℤ, one, neg_ℤ-suc_ℤ, neg_ℤ-pred_ℤ, neg_ℤ-neg_ℤ, suc_ℤ-+ℤ, pred_ℤ-+ℤ, suc_ℤ-*ℤ, pred_ℤ-*ℤ, +ℤ_idl, +ℤ_idr, +ℤ_assoc, +ℤ_comm, +ℤ_invr, +ℤ_invl, neg_ℤ-+ℤ, *ℤ_comm, *ℤ-one, zero-*ℤ}

pub by_steps : (P : ℤ → Type 0) → P (pos 0) → ((k : ℤ) → P k → P (suc_ℤ k)) → ((k : ℤ) → P k → P (pred_ℤ k)) → (k : ℤ) → P k
by_steps P z s p (pos zero) = z
by_steps P z s p (pos (suc n)) = s (pos n) (by_steps P z s p (pos n))
by_steps P z s p (negsuc zero) = p (pos zero) z
by_steps P z s p (negsuc (suc n)) = p (negsuc n) (by_steps P z s p (negsuc n))

-- the sum
pub swap_last : (a b c : ℤ) → a +ℤ b +ℤ c ≡ a +ℤ c +ℤ b
swap_last a b c = +ℤ_assoc a b c ∙ ap (λ x. a +ℤ x) (+ℤ_comm b c) ∙ sym (+ℤ_assoc a c b)

pub swap_first : (a b c : ℤ) → a +ℤ (b +ℤ c) ≡ b +ℤ (a +ℤ c)
swap_first a b c = sym (+ℤ_assoc a b c) ∙ ap (λ x. x +ℤ c) (+ℤ_comm a b) ∙ +ℤ_assoc b a c

pub swap_inner : (a b c d : ℤ) → a +ℤ b +ℤ (c +ℤ d) ≡ a +ℤ c +ℤ (b +ℤ d)
swap_inner a b c d = simp (+ℤ_assoc, swap_first b c d)

-- the product
pub *ℤ_distr : (a b c : ℤ) → (a +ℤ b) *ℤ c ≡ a *ℤ c +ℤ b *ℤ c
*ℤ_distr a b c = by_steps (λ k. (k +ℤ b) *ℤ c ≡ k *ℤ c +ℤ b *ℤ c) (simp (+ℤ_idl, zero-*ℤ))
    (λ k h. simp (suc_ℤ-+ℤ, suc_ℤ-*ℤ, h) (swap_last (k *ℤ c) (b *ℤ c) c))
    (λ k h. simp (pred_ℤ-+ℤ, pred_ℤ-*ℤ, h) (swap_last (k *ℤ c) (b *ℤ c) (neg_ℤ c))) a

pub *ℤ_distl : (a b c : ℤ) → a *ℤ (b +ℤ c) ≡ a *ℤ b +ℤ a *ℤ c
*ℤ_distl a b c = *ℤ_comm a (b +ℤ c) ∙ *ℤ_distr b c a ∙ ap (λ x. x +ℤ c *ℤ a) (*ℤ_comm b a) ∙ ap (λ x. a *ℤ b +ℤ x) (*ℤ_comm c a)

pub negℤ_*ℤ : (a b : ℤ) → neg_ℤ a *ℤ b ≡ neg_ℤ (a *ℤ b)
negℤ_*ℤ a b = by_steps (λ k. neg_ℤ k *ℤ b ≡ neg_ℤ (k *ℤ b)) (simp zero-*ℤ)
    (λ k h. simp (neg_ℤ-suc_ℤ, pred_ℤ-*ℤ, suc_ℤ-*ℤ, h, neg_ℤ-+ℤ))
    (λ k h. simp (neg_ℤ-pred_ℤ, pred_ℤ-*ℤ, suc_ℤ-*ℤ, h, neg_ℤ-+ℤ, neg_ℤ-neg_ℤ)) a

pub *ℤ_negℤ : (a b : ℤ) → a *ℤ neg_ℤ b ≡ neg_ℤ (a *ℤ b)
*ℤ_negℤ a b = *ℤ_comm a (neg_ℤ b) ∙ negℤ_*ℤ b a ∙ ap neg_ℤ (*ℤ_comm b a)

pub *ℤ_assoc : (a b c : ℤ) → (a *ℤ b) *ℤ c ≡ a *ℤ (b *ℤ c)
*ℤ_assoc a b c = by_steps (λ k. (k *ℤ b) *ℤ c ≡ k *ℤ (b *ℤ c)) (simp zero-*ℤ)
    (λ k h. simp (suc_ℤ-*ℤ, *ℤ_distr, h))
    (λ k h. simp (pred_ℤ-*ℤ, *ℤ_distr, negℤ_*ℤ, h)) a

pub *ℤ_idr : (a : ℤ) → a *ℤ pos 1 ≡ a
unfolding one
*ℤ_idr a = *ℤ-one a

pub *ℤ_idl : (a : ℤ) → pos 1 *ℤ a ≡ a
*ℤ_idl a = *ℤ_comm (pos 1) a ∙ *ℤ_idr a

pub *ℤ_swap_first : (a b c : ℤ) → a *ℤ (b *ℤ c) ≡ b *ℤ (a *ℤ c)
*ℤ_swap_first a b c = sym (*ℤ_assoc a b c) ∙ ap (λ x. x *ℤ c) (*ℤ_comm a b) ∙ *ℤ_assoc b a c

pub *ℤ_swap_inner : (a b c d : ℤ) → (a *ℤ b) *ℤ (c *ℤ d) ≡ (a *ℤ c) *ℤ (b *ℤ d)
*ℤ_swap_inner a b c d = simp (*ℤ_assoc, *ℤ_swap_first b c d)

-- equal exactly when the difference is 0
pub minus_self : {a b : ℤ} → a ≡ b → a -ℤ b ≡ pos 0
minus_self {a} {b} h = ap (λ x. x -ℤ b) h ∙ +ℤ_invr b

pub equal_of_minus : (a b : ℤ) → a -ℤ b ≡ pos 0 → a ≡ b
equal_of_minus a b h =
    sym (+ℤ_idr a) ∙ ap (λ x. a +ℤ x) (sym (+ℤ_invl b)) ∙ sym (+ℤ_assoc a (neg_ℤ b) b) ∙ ap (λ x. x +ℤ b) h ∙ +ℤ_idl b

-- a product of two that are not 0 is not 0, so a factor that is not 0 can be cancelled
positive : (a b : ℕ) → pos (suc a * suc b) ≡ pos 0 → ⊥
positive a b h = let k : suc a * suc b ≡ 0 = ap nat_abs h in omega arith

pub zero_factor : (a b : ℤ) → a ≢ pos 0 → a *ℤ b ≡ pos 0 → b ≡ pos 0
zero_factor (pos zero) b h k = absurd (h refl)
zero_factor (pos (suc a)) (pos zero) h k = refl
zero_factor (pos (suc a)) (pos (suc b)) h k = absurd (positive a b k)
zero_factor (pos (suc a)) (negsuc b) h k = absurd (positive a b (sym (neg_ℤ-neg_ℤ (pos (suc a * suc b))) ∙ ap neg_ℤ k))
zero_factor (negsuc a) (pos zero) h k = refl
zero_factor (negsuc a) (pos (suc b)) h k = absurd (positive a b (sym (neg_ℤ-neg_ℤ (pos (suc a * suc b))) ∙ ap neg_ℤ k))
zero_factor (negsuc a) (negsuc b) h k = absurd (positive a b k)

pub cancel_factor : (k a b : ℤ) → k ≢ pos 0 → k *ℤ a ≡ k *ℤ b → a ≡ b
cancel_factor k a b h e =
    equal_of_minus a b (zero_factor k (a -ℤ b) h (*ℤ_distl k a (neg_ℤ b) ∙ ap (λ x. k *ℤ a +ℤ x) (*ℤ_negℤ k b) ∙ minus_self e))

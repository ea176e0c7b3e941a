-- Among finitely many places with weights w and shares c, not all shares 0: the place where weight over share is least.
use Rattle.std.specs.Prelude.{ℕ, zero, suc, ◌*◌, ◌≤◌, ◌<◌, ◌≡◌, refl, ◌⊎◌}
use Rattle.std.proofs.Common.{zero-le, mul-zero, le_refl, eq-or-lt_of_le, le_of_mul-le-mul_right, mul-le-mul_right, arith, sym, subst, inl, inr, ⊎_elim}
use Rattle.std.proofs.Math.Decide.{dec_le, ℕ_discrete}

pub record Tightest (n : ℕ) (w c : ℕ → ℕ) : Type 0 where
  pub place : ℕ
  pub there : place < n
  pub shares : 0 < c place
  pub least : (j : ℕ) → j < n → w place * c j ≤ w j * c place

-- the order of fractions, past one in the middle whose share is above 0
through : (w₀ c₀ w₁ c₁ w₂ c₂ : ℕ) → 0 < c₁ → w₀ * c₁ ≤ w₁ * c₀ → w₁ * c₂ ≤ w₂ * c₁ → w₀ * c₂ ≤ w₂ * c₀
through w₀ c₀ w₁ c₁ w₂ c₂ h p q =
    le_of_mul-le-mul_right {m = w₀ * c₂} {n = w₂ * c₀} {k = c₁}
    (omega (arith, mul-le-mul_right c₂ p, mul-le-mul_right c₀ q)) h

module _ (w c : ℕ → ℕ) where
  -- what holds of each place below n and of n holds of each below suc n
  below_more : (P : ℕ → Type 0) (n : ℕ) → ((j : ℕ) → j < n → P j) → P n → (j : ℕ) → j < suc n → P j
  below_more P n h p j k = ⊎_elim (λ e. subst P (sym e) p) (h j) (split j k)
    where
      split : (j : ℕ) → j < suc n → (j ≡ n) ⊎ (j < n)
      split j k = eq-or-lt_of_le (omega arith)

  none_or : (n : ℕ) → ((j : ℕ) → j < n → c j ≡ 0) ⊎ Tightest n w c
  none_or zero = inl (λ j h. absurd (omega arith))
  none_or (suc n) = more (none_or n)
    where
      first : ((j : ℕ) → j < n → c j ≡ 0) → Dec (c n ≡ 0) → ((j : ℕ) → j < suc n → c j ≡ 0) ⊎ Tightest (suc n) w c
      first h (yes e) = inl (below_more (λ j. c j ≡ 0) n h e)
      first h (no e) = inr (record {
        place = n;
        there = le_refl (suc n);
        shares = omega arith;
        least = below_more (λ j. w n * c j ≤ w j * c n) n (λ j k. rw (h j k, mul-zero) zero-le) (le_refl (w n * c n));
      })

      next : (t : Tightest n w c) → Dec (w t.place * c n ≤ w n * c t.place) → Tightest (suc n) w c
      next t (yes h) = record {
        place = t.place;
        there = omega arith;
        shares = t.shares;
        least = below_more (λ j. w t.place * c j ≤ w j * c t.place) n t.least h;
      }
      next t (no h) = record {
        place = n;
        there = le_refl (suc n);
        shares = above (c n) refl;
        least = below_more (λ j. w n * c j ≤ w j * c n) n
            (λ j k. through (w n) (c n) (w t.place) (c t.place) (w j) (c j) t.shares (omega arith) (t.least j k)) (le_refl (w n * c n));
      }
        where
          above : (k : ℕ) → c n ≡ k → 0 < k
          above zero e = absurd (h (rw (e, mul-zero) zero-le))
          above (suc k) e = omega arith

      more : ((j : ℕ) → j < n → c j ≡ 0) ⊎ Tightest n w c → ((j : ℕ) → j < suc n → c j ≡ 0) ⊎ Tightest (suc n) w c
      more (inl h) = first h (ℕ_discrete (c n) 0)
      more (inr t) = inr (next t (dec_le (w t.place * c n) (w n * c t.place)))

pub tightest : (n : ℕ) (w c : ℕ → ℕ) (j : ℕ) → j < n → 0 < c j → Tightest n w c
tightest n w c j h k = found (none_or w c n)
  where
    found : ((j : ℕ) → j < n → c j ≡ 0) ⊎ Tightest n w c → Tightest n w c
    found (inl none) = absurd (omega (arith, none j h))
    found (inr t) = t

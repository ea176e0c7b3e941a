-- The first place that passes a test.
use Prim.Native.Nat.{ℕ, zero, suc, ◌+◌, ◌-◌, ◌≤◌, ◌<◌}
use Rattle.std.proofs.Common.{eq-or-lt_of_le, sym, ◌∙◌}
use native.Mathlib.Omega.{arith}
use Rattle.std.specs.Prelude.{◌≡◌, ◌⊎◌, Bool, cond}
use Rattle.std.proofs.Math.Path.{refl, ap}
use Rattle.std.proofs.Math.Logic.{inl, inr, ⊎_elim}
use Rattle.std.proofs.Math.Bool.{true, false}

-- the first of the k places from i on that passes, or d
unfoldable pub first_of : (ℕ → Bool) → ℕ → ℕ → ℕ → ℕ
first_of test i zero d = d
first_of test i (suc k) d = cond (test i) i (first_of test (i + 1) k d)

module _ (test : ℕ → Bool) where
  pub record Passed (r n : ℕ) : Type 0 where
    pub there : r < n
    pub passes : test r ≡ true

  pub record Failed (i n : ℕ) : Type 0 where
    pub each : (j : ℕ) → i ≤ j → j < n → test j ≡ false

  pub found_or : (k i d : ℕ) → Passed (first_of test i k d) (i + k) ⊎ ((first_of test i k d ≡ d) × Failed i (i + k))
  unfolding first_of
  found_or zero i d = inr (refl, record { each = λ j h g. absurd (omega arith) })
  found_or (suc k) i d = go (test i) refl (found_or k (i + 1) d)
    where
      go : (c : Bool) → test i ≡ c → Passed (first_of test (i + 1) k d) (i + 1 + k) ⊎ ((first_of test (i + 1) k d ≡ d) × Failed (i + 1) (i + 1 + k)) → Passed (cond c i (first_of test (i + 1) k d)) (i + suc k) ⊎ ((cond c i (first_of test (i + 1) k d) ≡ d) × Failed i (i + suc k))
      go true e r = inl (record { there = omega arith; passes = e })
      go false e (inl p) = inl (record { there = omega (arith, p.there); passes = p.passes })
      go false e (inr (h, f)) = inr (h, record { each = λ j l g. ⊎_elim (λ z. ap test (sym z) ∙ e) (λ z. f.each j (omega arith) (omega arith)) (eq-or-lt_of_le l) })

  -- ---- step by step, up to n

  step : (i n d : ℕ) → i < n → first_of test i (n - i) d ≡ cond (test i) i (first_of test (i + 1) (n - (i + 1)) d)
  unfolding first_of
  step i n d h = let e : n - i ≡ suc (n - (i + 1)) = omega arith in ap (λ k. first_of test i k d) e

  pub first_here : (i n d : ℕ) → i < n → test i ≡ true → first_of test i (n - i) d ≡ i
  first_here i n d h e = step i n d h ∙ ap (λ c. cond c i (first_of test (i + 1) (n - (i + 1)) d)) e

  pub first_next : (i n d : ℕ) → i < n → test i ≡ false → first_of test i (n - i) d ≡ first_of test (i + 1) (n - (i + 1)) d
  first_next i n d h e = step i n d h ∙ ap (λ c. cond c i (first_of test (i + 1) (n - (i + 1)) d)) e

  pub first_none : (i n d : ℕ) → n ≤ i → first_of test i (n - i) d ≡ d
  unfolding first_of
  first_none i n d h = let e : n - i ≡ 0 = omega arith in ap (λ k. first_of test i k d) e

-- Going from an index up to a bound: induction along the way, and a value made step by step.
use Rattle.std.specs.Prelude.{◌⊎◌, ◌≡◌}
use Rattle.std.proofs.Common.{inl, inr, lt_of_not-le}
use Rattle.std.proofs.Math.Path.{ap}
use Prim.Native.Nat.{ℕ, zero, suc, ◌+◌, ◌-◌, ◌≤◌, ◌<◌}
use Rattle.std.proofs.Math.Decide.{dec_le}
use native.Mathlib.Omega.{arith}

pub le_or_lt : (m n : ℕ) → (m ≤ n) ⊎ (n < m)
le_or_lt m n = elim (dec_le m n) [ yes h ↦ inl h | no h ↦ inr (lt_of_not-le h) ]

-- what holds from n on, and holds at each i below n if it holds at i + 1, holds everywhere
pub towards {κ} : (n : ℕ) (P : ℕ → Type κ) → ((i : ℕ) → n ≤ i → P i) → ((i : ℕ) → i < n → P (i + 1) → P i) → (i : ℕ) → P i
towards n P past step i = go (n - i) i (omega arith)
  where
    go : (k j : ℕ) → n ≤ j + k → P j
    go zero j h = past j (omega arith)
    go (suc k) j h = decided (le_or_lt n j) (λ l. go k (j + 1) (omega arith))
      where
        decided : (n ≤ j) ⊎ (j < n) → (j < n → P (j + 1)) → P j
        decided (inl l) next = past j l
        decided (inr l) next = step j l (next l)

module _ {ℓ} {B : Type ℓ} (step : ℕ → B → B) (z : B) where
  -- from i on, k times
  unfoldable pub times : ℕ → ℕ → B
  times i zero = z
  times i (suc k) = step i (times (i + 1) k)

  -- from i up to and without n: step i (step (i + 1) (… (step (n - 1) z)))
  unfoldable pub over : ℕ → ℕ → B
  unfolding times
  over i n = times i (n - i)

  pub over_none : (i n : ℕ) → n ≤ i → over i n ≡ z
  unfolding over
  over_none i n h =
      let none : n - i ≡ 0 = omega arith in
      ap (times i) none

  pub over_first : (i n : ℕ) → i < n → over i n ≡ step i (over (i + 1) n)
  unfolding over
  over_first i n h =
      let one : n - i ≡ suc (n - (i + 1)) = omega arith in
      ap (times i) one

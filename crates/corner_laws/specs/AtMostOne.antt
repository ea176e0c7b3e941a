-- 'The points left allow at most one solution': numbers of any sign that balance, with 0 for every corner that is not left, are all in one ratio.
use Rattle.std.specs.Prelude.{ℕ, ◌+◌, ◌<◌, ◌≡◌, refl, ◌≢◌, Bool, false, List, [], ◌∷◌, ℤ, pos, neg_ℤ, ◌*ℤ◌, length}
use Rattle.std.proofs.Common.{arith, sym, ◌∙◌, ap}
use Rattle.std.proofs.Math.IntN.{*ℤ_comm}
use Rattle.whole.specs.Laws.{cancel_factor}
use Rattle.whole.specs.Quote.{quotes, combine, times}
use Rattle.meaning.specs.Pieces.{Event}
use Rattle.meaning.specs.Equations.{one, total}
use Rattle.theory.specs.Totals.{weights_times}
use Rattle.theory.specs.Solved.{weights_there}
use Rattle.corner_laws.specs.Level.{Level}

-- numbers that balance, of any sign, 0 for every corner that is not left
pub record Allowed (a b : List Event) (left : ℕ → Bool) (k : ℕ → ℤ) : Type 0 where
  pub level : Level a b k
  pub out : (i : ℕ) → i < length a + length b → left i ≡ false → k i ≡ pos 0

pub record AtMostOne (a b : List Event) (left : ℕ → Bool) : Type 0 where
  pub ratio : (k m : ℕ → ℤ) → Allowed a b left k → Allowed a b left m
      → (i j : ℕ) → i < length a + length b → j < length a + length b → k i *ℤ m j ≡ k j *ℤ m i

-- so, of numbers with the same sum in the first simplex, not 0, there is at most one run
pub same_sum : {a b : List Event} {left : ℕ → Bool} → AtMostOne a b left → (k m : ℕ → ℤ) → Allowed a b left k → Allowed a b left m
    → total one k a ≡ total one m a → total one m a ≢ pos 0 → (i : ℕ) → i < length a + length b → k i ≡ m i
same_sum {a} {b} o k m p r e some i h =
    cancel_factor (total one m a) (k i) (m i) some
    (*ℤ_comm (total one m a) (k i)
    ∙ sym (weights_times (k i) one m a)
    ∙ weights_there one (λ j. k i *ℤ m j) (λ j. m i *ℤ k j) a (λ j g. o.ratio k m p r i j h (omega arith) ∙ *ℤ_comm (k j) (m i))
    ∙ weights_times (m i) one k a
    ∙ ap (λ z. m i *ℤ z) e
    ∙ *ℤ_comm (m i) (total one m a))

-- two runs that are each in one ratio with a third, which is not 0 at a place, are in one ratio
pub by_a_third : (c kᵢ kⱼ k mᵢ mⱼ m cᵢ cⱼ : ℤ) → c ≢ pos 0 → kᵢ *ℤ c ≡ k *ℤ cᵢ → kⱼ *ℤ c ≡ k *ℤ cⱼ → mᵢ *ℤ c ≡ m *ℤ cᵢ → mⱼ *ℤ c ≡ m *ℤ cⱼ
    → kᵢ *ℤ mⱼ ≡ kⱼ *ℤ mᵢ
by_a_third c kᵢ kⱼ k mᵢ mⱼ m cᵢ cⱼ some p q r s =
    cancel_factor c (kᵢ *ℤ mⱼ) (kⱼ *ℤ mᵢ) some
    (cancel_factor c (c *ℤ (kᵢ *ℤ mⱼ)) (c *ℤ (kⱼ *ℤ mᵢ)) some
    (combine (c ∷ kᵢ ∷ kⱼ ∷ k ∷ mᵢ ∷ mⱼ ∷ m ∷ cᵢ ∷ cⱼ ∷ [])
    (times (c *ℤ mⱼ) p ∷ times (neg_ℤ (c *ℤ mᵢ)) q ∷ times (neg_ℤ (k *ℤ cⱼ)) r ∷ times (k *ℤ cᵢ) s ∷ []) (search quotes depth 40 fits 9000) refl))

-- A sum that need not fit the machine, held as two numbers that do: what it is worth is the first less the second.
use Rattle.std.specs.Prelude.{◌≡◌, refl, Bool, true, false, [], ◌∷◌, T, ℤ, pos, ◌+ℤ◌, ◌-ℤ◌, ◌≤ℤ◌}
use Rattle.std.proofs.Common.{arith}
use Rattle.std.specs.Int.Signed.{le_z}
use Rattle.whole.specs.Quote.{ring, quotes}
use Rattle.whole.specs.Order.{le, of_le}
use Rattle.whole.specs.Cramer.{Four, all}
use Rattle.exact_signs.specs.BySigns.{sum}
use Rattle.exact_signs.specs.declared.Sum.{Sum}

abbrev pub worth : Sum → ℤ
worth s = s.two -ℤ s.against

-- two of four against minus the others
pub two_and_two : (e : Four ℤ) → (e.v0 +ℤ e.v1) -ℤ (pos 0 -ℤ (e.v2 +ℤ e.v3)) ≡ sum e
two_and_two e = ring (all e) (search quotes depth 40 fits 9000) refl

-- comparing the two is comparing their difference with 0
same_test : (a b : Bool) → (T a → T b) → (T b → T a) → a ≡ b
same_test true true f g = refl
same_test true false f g = absurd (f tt)
same_test false true f g = absurd (g tt)
same_test false false f g = refl

module _ (a b : ℤ) where
  less : a ≤ℤ b → (a -ℤ b) ≤ℤ pos 0
  less h = le (a ∷ b ∷ []) (search quotes depth 40 fits 9000) (omega (arith, of_le (a ∷ b ∷ []) (search quotes depth 40 fits 9000) h))

  less_back : (a -ℤ b) ≤ℤ pos 0 → a ≤ℤ b
  less_back h = le (a ∷ b ∷ []) (search quotes depth 40 fits 9000) (omega (arith, of_le (a ∷ b ∷ []) (search quotes depth 40 fits 9000) h))

  more : b ≤ℤ a → pos 0 ≤ℤ (a -ℤ b)
  more h = le (a ∷ b ∷ []) (search quotes depth 40 fits 9000) (omega (arith, of_le (a ∷ b ∷ []) (search quotes depth 40 fits 9000) h))

  more_back : pos 0 ≤ℤ (a -ℤ b) → b ≤ℤ a
  more_back h = le (a ∷ b ∷ []) (search quotes depth 40 fits 9000) (omega (arith, of_le (a ∷ b ∷ []) (search quotes depth 40 fits 9000) h))

  pub below_test : le_z a b ≡ le_z (a -ℤ b) (pos 0)
  below_test = same_test _ _ (λ t. (less (record { le = t })).le) (λ t. (less_back (record { le = t })).le)

  pub above_test : le_z b a ≡ le_z (pos 0) (a -ℤ b)
  above_test = same_test _ _ (λ t. (more (record { le = t })).le) (λ t. (more_back (record { le = t })).le)

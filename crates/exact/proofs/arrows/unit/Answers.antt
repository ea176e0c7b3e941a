-- A unit axis: 1 along itself, 0 along the others.
use mathlib.Core.Path.{◌≡◌, refl, sym, ◌∙◌, ap}
use mathlib.Core.Logic.{◌≢◌}
use Prim.Native.Nat.{ℕ, zero, suc, ◌%◌, ◌<◌}
use native.Mathlib.Omega.{arith}
use lib.IntN.{ℤ, pos}
use lib.Dec.{lit≤}
use mir.Syntax.{w64}
use Rattle.whole.specs.Vector.{axis}
use Rattle.whole.specs.Sizes.{Is, held, is_exact}
use Rattle.whole.proofs.Sizes.{back}
use Rattle.exact.specs.Limits.{difference_limit}
use Rattle.exact.specs.Places.{along}
use Rattle.exact.proofs.arrows.unit.Goals as goal

round : (k : ℕ) → axis k ≡ axis (k % 3)
unfolding axis
round zero = refl
round (suc zero) = refl
round (suc (suc zero)) = refl
round (suc (suc (suc k))) = let e : k % 3 ≡ suc (suc (suc k)) % 3 = omega arith in round k ∙ ap axis e

along-itself : (n : ℕ) → n < 3 → along n (axis n) ≡ pos 1
unfolding axis
along-itself zero h = refl
along-itself (suc zero) h = refl
along-itself (suc (suc zero)) h = refl
along-itself (suc (suc (suc n))) h = absurd (omega arith)

along-other : (r n : ℕ) → r < 3 → n < 3 → r ≢ n → along n (axis r) ≡ pos 0
unfolding axis
along-other zero zero h k e = absurd (e refl)
along-other zero (suc zero) h k e = refl
along-other zero (suc (suc n)) h k e = refl
along-other (suc zero) zero h k e = refl
along-other (suc zero) (suc zero) h k e = absurd (e refl)
along-other (suc zero) (suc (suc n)) h k e = refl
along-other (suc (suc zero)) zero h k e = refl
along-other (suc (suc zero)) (suc zero) h k e = refl
along-other (suc (suc zero)) (suc (suc zero)) h k e = absurd (e refl)
along-other (suc (suc zero)) (suc (suc (suc n))) h k e = absurd (omega arith)
along-other (suc (suc (suc r))) n h k e = absurd (omega arith)

held_one : {z : ℤ} → z ≡ pos 1 → Is difference_limit (held w64 (pos 1)) z
held_one e = rw e (back w64 (is_exact (record { size = lit≤ tt })) tt)

held-zero : {z : ℤ} → z ≡ pos 0 → Is difference_limit (held w64 (pos 0)) z
held-zero e = rw e (back w64 (is_exact (record { size = lit≤ tt })) tt)

pub returns-then-k-number : goal.returns-then-k-number
returns-then-k-number c = held_one (rw (round c.args.k, c.if-k-number.true) (along-itself c.args.number c.requires))

pub returns-else-k-number : goal.returns-else-k-number
returns-else-k-number c = held-zero (rw (round c.args.k) (along-other (c.args.k % 3) c.args.number (omega arith) c.requires c.if-k-number.false))

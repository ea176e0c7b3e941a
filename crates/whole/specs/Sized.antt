-- A machine's number whose meaning and bound are found and not written: `search sized` builds them along the expression, and
-- gathers in one Bool what must hold on the way. `fitting (search sized) tt` then answers that a result fits its width, and
-- `meant (search sized) refl tt` that it is what was promised.
use Rattle.std.specs.Prelude.{Bool, true, ℕ, T, ℤ}
use Rattle.whole.specs.Sizes.{Within, Is, is_exact}

pub record Sized (v : ℤ) : Type 0 where
  pub bound : ℕ
  pub meaning : ℤ
  pub safe : Bool
  pub is : T safe → Is bound v meaning

abbrev pub sized_within : {b : ℕ} (z : ℤ) → Within b z → Sized z
sized_within {b} z h = record { bound = b; meaning = z; safe = true; is = λ t. is_exact h }

abbrev pub sized_is : {b : ℕ} {z : ℤ} (v : ℤ) → Is b v z → Sized v
sized_is {b} {z} v h = record { bound = b; meaning = z; safe = true; is = λ t. h }

-- A difference: each coordinate is read from 32 bits and widened to 64, and the two bounds add up.
use borrow.Author.Rules.{rules}
use mathlib.Core.Path.{◌≡◌, refl}
use mathlib.Core.List.{List}
use Prim.Native.Nat.{ℕ, zero, suc, ◌+◌, ◌<◌}
use native.Mathlib.Nat.{add-zero}
use native.Mathlib.Omega.{arith}
use lib.IntN.{ℤ, pos, ◌-ℤ◌}
use lib.ListN.{get_or}
use mir.Syntax.{w32, w64}
use Rattle.whole.specs.Sizes.{Is, is_exact, held}
use Rattle.whole.proofs.Sizes.{is_sub, fits, back}
use Rattle.exact.specs.Limits.{difference_limit}
use Rattle.meaning.specs.Limits.{coordinate_limit}
use Rattle.exact.specs.Places.{Bounded, apart, along}
use Rattle.exact.proofs.difference.Goals as goal

module _ {ps : List ℤ} (h : Bounded coordinate_limit ps) where
  read : (i : ℕ) → Is coordinate_limit (held w32 (get_or ps i (pos 0))) (get_or ps i (pos 0))
  read i = back w32 (is_exact (h.at i)) tt

  less : (i j : ℕ) → Is difference_limit (held w64 (held w32 (get_or ps i (pos 0))) -ℤ held w64 (held w32 (get_or ps j (pos 0)))) (get_or ps i (pos 0) -ℤ get_or ps j (pos 0))
  less i j = is_sub (back w64 (read i) tt) (back w64 (read j) tt)

along_is : (ps : List ℤ) (o b k : ℕ) → k < 3 → get_or ps (o + k) (pos 0) -ℤ get_or ps (b + k) (pos 0) ≡ along k (apart ps o b)
along_is ps o b zero h = simp add-zero
along_is ps o b (suc zero) h = refl
along_is ps o b (suc (suc zero)) h = refl
along_is ps o b (suc (suc (suc k))) h = absurd (beyond h)
  where
    beyond : suc (suc (suc k)) < 3 → ⊥
    beyond h = omega arith

pub overflow_cast-result : goal.overflow_cast-result
overflow_cast-result c = fits w64 (read c.requires.2 _) tt

pub overflow_cast-result-2 : goal.overflow_cast-result-2
overflow_cast-result-2 c = fits w64 (read c.requires.2 _) tt

pub overflow_sub-result : goal.overflow_sub-result
overflow_sub-result c = fits w64 (less c.requires.2 _ _) tt

pub returns : goal.returns
returns c =
    let a = c.args in
    rw (← along_is a.positions.now a.at a.base a.axis c.requires.1)
    (back w64 (less c.requires.2 _ _) tt)

-- What a point has in a row: a coordinate is read from 32 bits and widened to 64; a time and one are 0 or 1.
use Prim.Native.Nat.{ℕ, zero, suc, ◌+◌, ◌≤◌, ◌<◌}
use native.Mathlib.Nat.{add-zero}
use native.Mathlib.Omega.{arith}
use mathlib.Core.Bool.{Bool, true, false, not, cond, ◌&&◌}
use mathlib.Core.List.{List}
use mathlib.Core.Path.{◌≡◌, refl}
use lib.Dec.{ltb, lit≤}
use lib.IntN.{ℤ, pos}
use lib.ListN.{get_or}
use mir.Syntax.{w32, w64}
use borrow.Author.Tests.{le-ltb}
use Rattle.whole.specs.Sizes.{Is, is_exact, is_equal, held}
use Rattle.whole.proofs.Sizes.{fits, back}
use Rattle.meaning.specs.Limits.{coordinate_limit}
use Rattle.exact.specs.Places.{Bounded}
use Rattle.claim_sums.specs.Sums.{reading, point_at}
use Rattle.claim_sums.proofs.reading.Goals as goal

coordinate : (ps : List ℤ) (at : ℕ) (end : Bool) (row : ℕ) → row < 3 → get_or ps (at + row) (pos 0) ≡ reading row (point_at ps at end)
unfolding reading
coordinate ps at end zero h = simp add-zero
coordinate ps at end (suc zero) h = refl
coordinate ps at end (suc (suc zero)) h = refl
coordinate ps at end (suc (suc (suc row))) h = absurd (omega arith)

read : {ps : List ℤ} → Bounded coordinate_limit ps → (i : ℕ) → Is coordinate_limit (held w32 (get_or ps i (pos 0))) (get_or ps i (pos 0))
read h i = back w32 (is_exact (h.at i)) tt

-- 0 for the time of a point at the start, else 1
plain : (ps : List ℤ) (at : ℕ) (end : Bool) (row : ℕ) → 3 ≤ row → cond (ltb row 4 && not end) (pos 0) (pos 1) ≡ reading row (point_at ps at end)
unfolding reading
plain ps at end zero h = absurd (omega arith)
plain ps at end (suc zero) h = absurd (omega arith)
plain ps at end (suc (suc zero)) h = absurd (omega arith)
plain ps at true (suc (suc (suc zero))) h = refl
plain ps at false (suc (suc (suc zero))) h = refl
plain ps at end (suc (suc (suc (suc row)))) h = rw (le-ltb (suc (suc (suc (suc row)))) 4 (omega arith)) refl

held-zero : {z : ℤ} → pos 0 ≡ z → Is coordinate_limit (held w64 (pos 0)) z
held-zero e = is_equal e (back w64 (is_exact (record { size = lit≤ tt })) tt)

held_one : {z : ℤ} → pos 1 ≡ z → Is coordinate_limit (held w64 (pos 1)) z
held_one e = is_equal e (back w64 (is_exact (record { size = lit≤ tt })) tt)

module _ (ps : List ℤ) (at : ℕ) (end : Bool) (row : ℕ) (h : 3 ≤ row) where
  none : (ltb row 4 && not end) ≡ true → pos 0 ≡ reading row (point_at ps at end)
  none t = rw t at (plain ps at end row h)

  one-whole : (ltb row 4 && not end) ≡ false → pos 1 ≡ reading row (point_at ps at end)
  one-whole t = rw t at (plain ps at end row h)

pub overflow_cast-result : goal.overflow_cast-result
overflow_cast-result c = fits w64 (read c.requires.1 _) tt

pub returns-then-row-lt-TIME : goal.returns-then-row-lt-TIME
returns-then-row-lt-TIME c =
    let a = c.args in
    is_equal (coordinate a.positions.now a.at a.end a.row c.if-row-lt-TIME.true) (back w64 (read c.requires.1 _) tt)

pub returns-then-row-end : goal.returns-then-row-end
returns-then-row-end c =
    let a = c.args in
    held-zero (none a.positions.now a.at a.end a.row c.if-row-lt-TIME.false c.if-row-end.true)

pub returns-else-row-end : goal.returns-else-row-end
returns-else-row-end c =
    let a = c.args in
    held_one (one-whole a.positions.now a.at a.end a.row c.if-row-lt-TIME.false c.if-row-end.false)

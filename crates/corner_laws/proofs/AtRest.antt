-- Of `AtRest`: what rests on its definitions.
use Prim.Native.Nat.{ℕ, zero, suc, ◌<◌}
use Rattle.std.proofs.Common.{arith, sym, ◌∙◌}
use Rattle.std.specs.Prelude.{◌≡◌, refl, false, ℤ, ◌+ℤ◌, ◌*ℤ◌, ◌<ℤ◌}
use Rattle.std.proofs.Math.Path.{subst}
use mathlib.Core.List.{List, [], ◌∷◌, ◌++◌}
use Rattle.std.proofs.Math.IntN.{pos}
use Rattle.std.proofs.Math.ListN.{get_or}
use Rattle.whole.specs.Quote.{quotes, ring, combine, times}
use Rattle.meaning.specs.Pieces.{Event, starting, ending, moving_point, moving_triangle}
use Rattle.meaning.specs.Equations.{one, time_of, total, Touch}
use Rattle.meaning.specs.declared.Corners.{Corners}
use Rattle.corner_laws.specs.Level.{Measure, ones, in_x, in_y, in_z, in_time, read, balanced_by, sum_of}
use Rattle.corner_laws.specs.Left.{TouchIn}
use Rattle.corner_laws.specs.AtRest.{Still, Timeless, still_alike, four, weights, point_on, triangle_low, triangle_middle, triangle_high, triangle_on, w, point_starts, never}

two_sums : (a b x x' : ℤ) → x' ≡ x → a *ℤ x +ℤ (b *ℤ x' +ℤ pos 0) ≡ (a +ℤ b) *ℤ x +ℤ (pos 0 *ℤ x' +ℤ pos 0)
two_sums a b x x' h = combine (a ∷ b ∷ x ∷ x' ∷ []) (times b h ∷ []) (search quotes depth 40 fits 9000) refl

module _ (a b c d x x' y y' z z' : ℤ) (h : x' ≡ x) (k : y' ≡ y) (l : z' ≡ z) where
  four_sums₀ : a *ℤ x +ℤ (b *ℤ y +ℤ (c *ℤ z +ℤ (d *ℤ z' +ℤ pos 0))) ≡ a *ℤ x +ℤ (b *ℤ y +ℤ ((c +ℤ d) *ℤ z +ℤ (pos 0 *ℤ z' +ℤ pos 0)))
  four_sums₀ = combine (four a b c d x x' y y' z z' h k l) (times d l ∷ []) (search quotes depth 40 fits 9000) refl

  four_sums₁ : a *ℤ x +ℤ (b *ℤ y +ℤ (c *ℤ y' +ℤ (d *ℤ z' +ℤ pos 0))) ≡ a *ℤ x +ℤ ((b +ℤ c) *ℤ y +ℤ (d *ℤ z +ℤ (pos 0 *ℤ z' +ℤ pos 0)))
  four_sums₁ = combine (four a b c d x x' y y' z z' h k l) (times c k ∷ times d l ∷ []) (search quotes depth 40 fits 9000) refl

  four_sums₂ : a *ℤ x +ℤ (b *ℤ x' +ℤ (c *ℤ y' +ℤ (d *ℤ z' +ℤ pos 0))) ≡ (a +ℤ b) *ℤ x +ℤ (c *ℤ y +ℤ (d *ℤ z +ℤ (pos 0 *ℤ z' +ℤ pos 0)))
  four_sums₂ = combine (four a b c d x x' y y' z z' h k l) (times b h ∷ times c k ∷ times d l ∷ []) (search quotes depth 40 fits 9000) refl

two_times : (a : ℤ) → a *ℤ pos 0 +ℤ (pos 0 *ℤ pos 1 +ℤ pos 0) ≡ pos 0
two_times a = ring (a ∷ []) (search quotes depth 40 fits 9000) refl

four_times : (a b c : ℤ) → a *ℤ pos 0 +ℤ (b *ℤ pos 0 +ℤ (c *ℤ pos 0 +ℤ (pos 0 *ℤ pos 1 +ℤ pos 0))) ≡ pos 0
four_times a b c = ring (a ∷ b ∷ c ∷ []) (search quotes depth 40 fits 9000) refl

module _ (ps : List ℤ) (u : ℕ → ℕ) where
  module _ {p : ℕ} (h : Still ps p) where
    point_alike : (f : Event → ℤ) → Timeless f → total f (w ps u) (moving_point ps p) ≡ total f (weights (point_on u)) (moving_point ps p)
    unfolding total
    point_alike f t = two_sums (w ps u 0) (w ps u 1) (f (starting ps p)) (f (ending ps p)) (still_alike h f t)

  point_early : (p : ℕ) → total time_of (weights (point_on u)) (moving_point ps p) ≡ pos 0
  unfolding total
  point_early p = two_times (w ps u 0 +ℤ w ps u 1)

  module _ {c : Corners} (h : Still ps c.low) (l : Still ps c.middle) (m : Still ps c.high) where
    triangle_alike : (k : ℕ) (f : Event → ℤ) → Timeless f → total f (w ps u) (moving_triangle ps c k) ≡ total f (weights (triangle_on k u)) (moving_triangle ps c 0)
    unfolding total moving_triangle triangle_low triangle_middle triangle_high
    triangle_alike zero f t = four_sums₀ (w ps u 0) (w ps u 1) (w ps u 2) (w ps u 3) (f (starting ps c.low)) (f (ending ps c.low)) (f (starting ps c.middle)) (f (ending ps c.middle)) (f (starting ps c.high)) (f (ending ps c.high)) (still_alike h f t) (still_alike l f t) (still_alike m f t)
    triangle_alike (suc zero) f t = four_sums₁ (w ps u 0) (w ps u 1) (w ps u 2) (w ps u 3) (f (starting ps c.low)) (f (ending ps c.low)) (f (starting ps c.middle)) (f (ending ps c.middle)) (f (starting ps c.high)) (f (ending ps c.high)) (still_alike h f t) (still_alike l f t) (still_alike m f t)
    triangle_alike (suc (suc k)) f t = four_sums₂ (w ps u 0) (w ps u 1) (w ps u 2) (w ps u 3) (f (starting ps c.low)) (f (ending ps c.low)) (f (starting ps c.middle)) (f (ending ps c.middle)) (f (starting ps c.high)) (f (ending ps c.high)) (still_alike h f t) (still_alike l f t) (still_alike m f t)

  triangle_early : (c : Corners) (k : ℕ) → total time_of (weights (triangle_on k u)) (moving_triangle ps c 0) ≡ pos 0
  unfolding total moving_triangle
  triangle_early c k = four_times (pos (triangle_low k u)) (pos (triangle_middle k u)) (pos (triangle_high k u))

module _ {ps : List ℤ} where
  pub point_starts_lem : {p : ℕ} {c : Corners} → Still ps p → Still ps c.low → Still ps c.middle → Still ps c.high
      → (k : ℕ) → Touch (moving_point ps p) (moving_triangle ps c k)
      → TouchIn (moving_point ps p) (moving_triangle ps c 0) (λ i. get_or point_starts i false)
  unfolding total moving_triangle
  point_starts_lem {p} {c} h l m n k t = record {
    w = λ i. get_or on i 0;
    level = balanced_by go;
    some = subst (λ z. pos 0 <ℤ z) (point_alike ps t.u h one (λ p. refl)) t.some;
    out = none;
  }
    where
      on : List ℕ
      on = point_on t.u ++ triangle_on k t.v

      timeless : (f : Event → ℤ) → Timeless f → total f (λ i. pos (t.u i)) (moving_point ps p) ≡ total f (λ i. pos (t.v i)) (moving_triangle ps c k)
          → total f (weights (point_on t.u)) (moving_point ps p) ≡ total f (weights (triangle_on k t.v)) (moving_triangle ps c 0)
      timeless f a e = sym (point_alike ps t.u h f a) ∙ e ∙ triangle_alike ps t.v l m n k f a

      go : (m : Measure) → total (read m) (weights (point_on t.u)) (moving_point ps p) ≡ total (read m) (weights (triangle_on k t.v)) (moving_triangle ps c 0)
      go ones = timeless (read ones) (λ p. refl) (sum_of t.balanced ones)
      go in_x = timeless (read in_x) (λ p. refl) (sum_of t.balanced in_x)
      go in_y = timeless (read in_y) (λ p. refl) (sum_of t.balanced in_y)
      go in_z = timeless (read in_z) (λ p. refl) (sum_of t.balanced in_z)
      go in_time = point_early ps t.u p ∙ sym (triangle_early ps t.v c k)

      none : (i : ℕ) → i < 6 → get_or point_starts i false ≡ false → get_or on i 0 ≡ 0
      none zero i e = absurd (never e)
      none (suc zero) i e = refl
      none (suc (suc zero)) i e = absurd (never e)
      none (suc (suc (suc zero))) i e = absurd (never e)
      none (suc (suc (suc (suc zero)))) i e = absurd (never e)
      none (suc (suc (suc (suc (suc zero))))) i e = refl
      none (suc (suc (suc (suc (suc (suc n)))))) i e = absurd (omega arith)

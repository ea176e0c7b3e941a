-- Where a vertex rests, its end stands where its start does, and an end's weight can be put on its start. So where all vertices of a pair rest,
-- weights of any of its pieces make weights of the starts of its first piece alone. (Back it is nothing: those are weights of the first piece.)
use Prim.Native.Nat.{ℕ, zero, suc, ◌+◌, ◌*◌, ◌<◌, min, max}
use Rattle.std.proofs.Common.{arith, sym, ◌∙◌, ap}
use Rattle.std.specs.Prelude.{◌≡◌, refl, Bool, true, false, T, ℤ, ◌+ℤ◌, ◌*ℤ◌, ◌<ℤ◌}
use Rattle.std.proofs.Math.Path.{subst}
use mathlib.Core.List.{List, [], ◌∷◌, ◌++◌}
use Rattle.std.proofs.Math.IntN.{pos}
use Rattle.std.proofs.Math.ListN.{get_or}
use Rattle.whole.specs.Vector.{Vector}
use Rattle.whole.specs.Quote.{quotes, ring, combine, times}
use Rattle.meaning.specs.Scene.{Scene, vector_at, ends_of, corners_of}
use Rattle.meaning.specs.Pieces.{Event, starting, ending, moving_edge}
use Rattle.meaning.specs.Equations.{one, time_of, total, Touch}
use Rattle.meaning.specs.declared.Ends.{Ends}
use Rattle.meaning.specs.declared.Kind.{Kind}
use Rattle.meaning.specs.declared.Kind.TheVariants.{PointTriangle, EdgeEdge}
use Rattle.corner_laws.specs.Level.{Measure, ones, in_x, in_y, in_z, in_time, read, balanced_by, sum_of}
use Rattle.corner_laws.specs.Left.{TouchIn}

-- a vertex that rests
pub record Still (ps : List ℤ) (v : ℕ) : Type 0 where
  pub place : vector_at ps (6 * v + 3) ≡ vector_at ps (6 * v)

-- a measure that is the same at both times
abbrev pub Timeless : (Event → ℤ) → Type 0
Timeless f = (p : Vector) → f (record { place = p; time = pos 1 }) ≡ f (record { place = p; time = pos 0 })

pub still_alike : {ps : List ℤ} {v : ℕ} → Still ps v → (f : Event → ℤ) → Timeless f → f (ending ps v) ≡ f (starting ps v)
still_alike {ps} {v} h f t = ap (λ (p : Vector). f (record { place = p; time = pos 1 })) h.place ∙ t (vector_at ps (6 * v))

-- all vertices of a pair rest
unfoldable pub AllStill : Scene → Kind → ℕ → ℕ → Type 0
AllStill s PointTriangle i j = let c = corners_of s j in let at = Still s.positions in at i × at c.low × at c.middle × at c.high
AllStill s EdgeEdge i j = let e = ends_of s (min i j) in let f = ends_of s (max i j) in let at = Still s.positions in at e.low × at e.high × at f.low × at f.high

-- ---- on plain numbers: weights a b c d, what a measure says of the starts x y z, and of the ends x' y' z'

module _ (a b c x x' y y' : ℤ) (h : x' ≡ x) (k : y' ≡ y) where
  abbrev three : List ℤ
  three = a ∷ b ∷ c ∷ x ∷ x' ∷ y ∷ y' ∷ []

  three_sums₀ : a *ℤ x +ℤ (b *ℤ y +ℤ (c *ℤ y' +ℤ pos 0)) ≡ a *ℤ x +ℤ ((b +ℤ c) *ℤ y +ℤ (pos 0 *ℤ y' +ℤ pos 0))
  three_sums₀ = combine three (times c k ∷ []) (search quotes depth 40 fits 9000) refl

  three_sums₁ : a *ℤ x +ℤ (b *ℤ x' +ℤ (c *ℤ y' +ℤ pos 0)) ≡ (a +ℤ b) *ℤ x +ℤ (c *ℤ y +ℤ (pos 0 *ℤ y' +ℤ pos 0))
  three_sums₁ = combine three (times b h ∷ times c k ∷ []) (search quotes depth 40 fits 9000) refl

module _ (a b c d x x' y y' z z' : ℤ) (h : x' ≡ x) (k : y' ≡ y) (l : z' ≡ z) where
  abbrev pub four : List ℤ
  four = a ∷ b ∷ c ∷ d ∷ x ∷ x' ∷ y ∷ y' ∷ z ∷ z' ∷ []

three_times : (a b : ℤ) → a *ℤ pos 0 +ℤ (b *ℤ pos 0 +ℤ (pos 0 *ℤ pos 1 +ℤ pos 0)) ≡ pos 0
three_times a b = ring (a ∷ b ∷ []) (search quotes depth 40 fits 9000) refl

-- ---- each end's weight put on its start: weights of the first piece's points, with 0 for its end

abbrev pub weights : List ℕ → ℕ → ℤ
weights l i = pos (get_or l i 0)

abbrev pub point_on : (ℕ → ℕ) → List ℕ
point_on u = (u 0 + u 1) ∷ 0 ∷ []

unfoldable edge_low : ℕ → (ℕ → ℕ) → ℕ
edge_low zero u = u 0
edge_low (suc k) u = u 0 + u 1

unfoldable edge_high : ℕ → (ℕ → ℕ) → ℕ
edge_high zero u = u 1 + u 2
edge_high (suc k) u = u 2

abbrev edge_on : ℕ → (ℕ → ℕ) → List ℕ
edge_on k u = edge_low k u ∷ edge_high k u ∷ 0 ∷ []

unfoldable pub triangle_low : ℕ → (ℕ → ℕ) → ℕ
triangle_low zero u = u 0
triangle_low (suc zero) u = u 0
triangle_low (suc (suc k)) u = u 0 + u 1

unfoldable pub triangle_middle : ℕ → (ℕ → ℕ) → ℕ
triangle_middle zero u = u 1
triangle_middle (suc zero) u = u 1 + u 2
triangle_middle (suc (suc k)) u = u 2

unfoldable pub triangle_high : ℕ → (ℕ → ℕ) → ℕ
triangle_high zero u = u 2 + u 3
triangle_high (suc zero) u = u 3
triangle_high (suc (suc k)) u = u 3

abbrev pub triangle_on : ℕ → (ℕ → ℕ) → List ℕ
triangle_on k u = triangle_low k u ∷ triangle_middle k u ∷ triangle_high k u ∷ 0 ∷ []

module _ (ps : List ℤ) (u : ℕ → ℕ) where
  abbrev pub w : ℕ → ℤ
  w i = pos (u i)

  module _ {e : Ends} (h : Still ps e.low) (l : Still ps e.high) where
    edge_alike : (k : ℕ) (f : Event → ℤ) → Timeless f → total f w (moving_edge ps e k) ≡ total f (weights (edge_on k u)) (moving_edge ps e 0)
    unfolding total moving_edge edge_low edge_high
    edge_alike zero f t = three_sums₀ (w 0) (w 1) (w 2) (f (starting ps e.low)) (f (ending ps e.low)) (f (starting ps e.high)) (f (ending ps e.high)) (still_alike h f t) (still_alike l f t)
    edge_alike (suc k) f t = three_sums₁ (w 0) (w 1) (w 2) (f (starting ps e.low)) (f (ending ps e.low)) (f (starting ps e.high)) (f (ending ps e.high)) (still_alike h f t) (still_alike l f t)

  edge_early : (e : Ends) (k : ℕ) → total time_of (weights (edge_on k u)) (moving_edge ps e 0) ≡ pos 0
  unfolding total moving_edge
  edge_early e k = three_times (pos (edge_low k u)) (pos (edge_high k u))

-- ---- so of a pair that rests the starts of the first piece decide

-- which of the six points of a first piece are starts
abbrev pub point_starts : List Bool
point_starts = true ∷ false ∷ true ∷ true ∷ true ∷ false ∷ []

abbrev pub edge_starts : List Bool
edge_starts = true ∷ true ∷ false ∷ true ∷ true ∷ false ∷ []

pub never : true ≡ false → ⊥
never e = subst T e tt

module _ {ps : List ℤ} where
  pub edges_starts : {e f : Ends} → Still ps e.low → Still ps e.high → Still ps f.low → Still ps f.high
      → (i j : ℕ) → Touch (moving_edge ps e i) (moving_edge ps f j)
      → TouchIn (moving_edge ps e 0) (moving_edge ps f 0) (λ i. get_or edge_starts i false)
  unfolding total moving_edge
  edges_starts {e} {f} h l m n i j t = record {
    w = λ i. get_or on i 0;
    level = balanced_by go;
    some = subst (λ z. pos 0 <ℤ z) (edge_alike ps t.u h l i one (λ p. refl)) t.some;
    out = none;
  }
    where
      on : List ℕ
      on = edge_on i t.u ++ edge_on j t.v

      timeless : (g : Event → ℤ) → Timeless g → total g (λ i. pos (t.u i)) (moving_edge ps e i) ≡ total g (λ i. pos (t.v i)) (moving_edge ps f j)
          → total g (weights (edge_on i t.u)) (moving_edge ps e 0) ≡ total g (weights (edge_on j t.v)) (moving_edge ps f 0)
      timeless g a r = sym (edge_alike ps t.u h l i g a) ∙ r ∙ edge_alike ps t.v m n j g a

      go : (m : Measure) → total (read m) (weights (edge_on i t.u)) (moving_edge ps e 0) ≡ total (read m) (weights (edge_on j t.v)) (moving_edge ps f 0)
      go ones = timeless (read ones) (λ p. refl) (sum_of t.balanced ones)
      go in_x = timeless (read in_x) (λ p. refl) (sum_of t.balanced in_x)
      go in_y = timeless (read in_y) (λ p. refl) (sum_of t.balanced in_y)
      go in_z = timeless (read in_z) (λ p. refl) (sum_of t.balanced in_z)
      go in_time = edge_early ps t.u e i ∙ sym (edge_early ps t.v f j)

      none : (i : ℕ) → i < 6 → get_or edge_starts i false ≡ false → get_or on i 0 ≡ 0
      none zero i e = absurd (never e)
      none (suc zero) i e = absurd (never e)
      none (suc (suc zero)) i e = refl
      none (suc (suc (suc zero))) i e = absurd (never e)
      none (suc (suc (suc (suc zero)))) i e = absurd (never e)
      none (suc (suc (suc (suc (suc zero))))) i e = refl
      none (suc (suc (suc (suc (suc (suc n)))))) i e = absurd (omega arith)

-- Straight motion from the other side. `TouchInMotion` stands elsewhere only where it is denied, so here it is shown of something: two parts
-- that have a place in common at p / q touch in motion, at the start and at the end too. And the corners move alike in both models: at
-- p / q a vertex stands at the point of its segment that has the weights q - p and p. Nothing here is to be believed; it holds `Motion` to
-- what it is for.
use Rattle.std.specs.Prelude.{ℕ, zero, suc, ◌+◌, ◌-◌, ◌≤◌, ◌<◌, List, [], ◌∷◌, ◌≡◌, ℤ, ◌+ℤ◌, ◌*ℤ◌}
use Rattle.std.proofs.Math.Path.{refl, ap}
use Rattle.std.proofs.Common.{arith}
use Rattle.std.proofs.Math.IntN.{pos}
use Rattle.whole.specs.Vector.{Vector, plus, scale}
use Rattle.whole.specs.Quote.{quotes, ring}
use Rattle.meaning.specs.Scene.{Scene, edge_end, corner}
use Rattle.meaning.specs.Pieces.{starting, ending, moving_point}
use Rattle.meaning.specs.Equations.{one, x_of, y_of, z_of, time_of, total}
use Rattle.meaning.specs.Motion.{standing}

-- ---- weighted sums

-- weights by place; behind them 0
unfoldable pub weigh : List ℕ → ℕ → ℕ
weigh [] i = 0
weigh (w ∷ ws) zero = w
weigh (w ∷ ws) (suc i) = weigh ws i

module _ {A : Type 0} (f : A → ℤ) where
  pub of_one : (u : ℕ) (a : A) → total f (λ i. pos (weigh (u ∷ []) i)) (a ∷ []) ≡ pos u *ℤ f a
  unfolding total weigh
  of_one u a = sum (pos u) (f a)
    where
      sum : (u x : ℤ) → u *ℤ x +ℤ pos 0 ≡ u *ℤ x
      sum u x = ring (u ∷ x ∷ []) (search quotes depth 40 fits 9000) refl

  pub of_two : (u v : ℕ) (a b : A) → total f (λ i. pos (weigh (u ∷ v ∷ []) i)) (a ∷ b ∷ []) ≡ pos u *ℤ f a +ℤ pos v *ℤ f b
  unfolding total weigh
  of_two u v a b = sum (pos u) (pos v) (f a) (f b)
    where
      sum : (u v x y : ℤ) → u *ℤ x +ℤ (v *ℤ y +ℤ pos 0) ≡ u *ℤ x +ℤ v *ℤ y
      sum u v x y = ring (u ∷ v ∷ x ∷ y ∷ []) (search quotes depth 40 fits 9000) refl

  pub of_three : (u v w : ℕ) (a b c : A) → total f (λ i. pos (weigh (u ∷ v ∷ w ∷ []) i)) (a ∷ b ∷ c ∷ []) ≡ pos u *ℤ f a +ℤ pos v *ℤ f b +ℤ pos w *ℤ f c
  unfolding total weigh
  of_three u v w a b c = sum (pos u) (pos v) (pos w) (f a) (f b) (f c)
    where
      sum : (u v w x y z : ℤ) → u *ℤ x +ℤ (v *ℤ y +ℤ (w *ℤ z +ℤ pos 0)) ≡ u *ℤ x +ℤ v *ℤ y +ℤ w *ℤ z
      sum u v w x y z = ring (u ∷ v ∷ w ∷ x ∷ y ∷ z ∷ []) (search quotes depth 40 fits 9000) refl

-- ---- the corners move alike in both models

-- the weights q - p and p of a vertex's segment: the time is p / q, and the place is where the vertex stands then
pub record OnItsSegment (s : Scene) (p q v : ℕ) : Type 0 where
  pub sum : total one (λ i. pos (weigh ((q - p) ∷ p ∷ []) i)) (moving_point s.positions v) ≡ pos q
  pub time : total time_of (λ i. pos (weigh ((q - p) ∷ p ∷ []) i)) (moving_point s.positions v) ≡ pos p
  pub x : total x_of (λ i. pos (weigh ((q - p) ∷ p ∷ []) i)) (moving_point s.positions v) ≡ (standing s p q v).x
  pub y : total y_of (λ i. pos (weigh ((q - p) ∷ p ∷ []) i)) (moving_point s.positions v) ≡ (standing s p q v).y
  pub z : total z_of (λ i. pos (weigh ((q - p) ∷ p ∷ []) i)) (moving_point s.positions v) ≡ (standing s p q v).z

pub corners_move_alike : (s : Scene) (p q v : ℕ) → p ≤ q → OnItsSegment s p q v
unfolding total weigh
corners_move_alike s p q v within = record {
  sum = ap pos (omega arith);
  time = ap pos (omega arith);
  x = of_two x_of (q - p) p (starting s.positions v) (ending s.positions v);
  y = of_two y_of (q - p) p (starting s.positions v) (ending s.positions v);
  z = of_two z_of (q - p) p (starting s.positions v) (ending s.positions v);
}

-- ---- a place in common

-- the place that two points, or three, have with such weights, times the sum of these
abbrev pub between : ℕ → ℕ → Vector → Vector → Vector
between a b d e = plus (scale (pos a) d) (scale (pos b) e)

abbrev pub among_three : ℕ → ℕ → ℕ → Vector → Vector → Vector → Vector
among_three a b c d e f = plus (plus (scale (pos a) d) (scale (pos b) e)) (scale (pos c) f)

-- vertex i is at a place of triangle j: the corners have it with the weights a, b, c; `at` says where each vertex is
pub record PointMeets (s : Scene) (at : ℕ → Vector) (i j : ℕ) : Type 0 where
  pub a : ℕ
  pub b : ℕ
  pub c : ℕ
  pub some : 0 < a + b + c
  pub place : scale (pos (a + b + c)) (at i) ≡ among_three a b c (at (corner s j 0)) (at (corner s j 1)) (at (corner s j 2))

-- edges i and j have a place in common
pub record EdgesMeet (s : Scene) (at : ℕ → Vector) (i j : ℕ) : Type 0 where
  pub a : ℕ
  pub b : ℕ
  pub c : ℕ
  pub d : ℕ
  pub some : 0 < a + b
  pub sums : a + b ≡ c + d
  pub place : between a b (at (edge_end s i 0)) (at (edge_end s i 1)) ≡ between c d (at (edge_end s j 0)) (at (edge_end s j 1))

module _ (s : Scene) (p q i j : ℕ) (within : p ≤ q) (positive : 0 < q) where
  abbrev pub at : ℕ → Vector
  at v = standing s p q v

-- Numbers for the corners of both simplices in one run, those of the first simplex first, and when they balance. The five equations are
-- one, read off each of five measures of a corner.
use Rattle.std.specs.Prelude.{ℕ, ◌+◌, ◌<◌, ◌≡◌, List, ℤ, ◌+ℤ◌, ◌*ℤ◌, length}
use Rattle.std.proofs.Common.{arith, sym, ◌∙◌, ap}
use Rattle.meaning.specs.Pieces.{Event}
use Rattle.meaning.specs.Equations.{one, x_of, y_of, z_of, time_of, total, Balanced}
use Rattle.theory.specs.Totals.{weights_plus, weights_times}
use Rattle.theory.specs.Solved.{weights_there}

pub data Measure : Type 0 where
  ones in_x in_y in_z in_time : Measure

abbrev pub read : Measure → Event → ℤ
read ones = one
read in_x = x_of
read in_y = y_of
read in_z = z_of
read in_time = time_of

module _ {a b : List Event} {u v : ℕ → ℤ} where
  pub balanced_by : ((m : Measure) → total (read m) u a ≡ total (read m) v b) → Balanced a b u v
  balanced_by h = record { sums = h ones; xs = h in_x; ys = h in_y; zs = h in_z; times = h in_time }

  pub sum_of : Balanced a b u v → (m : Measure) → total (read m) u a ≡ total (read m) v b
  sum_of h ones = h.sums
  sum_of h in_x = h.xs
  sum_of h in_y = h.ys
  sum_of h in_z = h.zs
  sum_of h in_time = h.times

abbrev pub Level : (a b : List Event) → (ℕ → ℤ) → Type 0
Level a b w = Balanced a b w (λ i. w (length a + i))

module _ {a b : List Event} where
  pub level_times : (r : ℤ) {u : ℕ → ℤ} → Level a b u → Level a b (λ i. r *ℤ u i)
  level_times r {u} h = balanced_by
      (λ m. weights_times r (read m) u a ∙ ap (λ z. r *ℤ z) (sum_of h m) ∙ sym (weights_times r (read m) (λ i. u (length a + i)) b))

  pub level_plus : {u v : ℕ → ℤ} → Level a b u → Level a b v → Level a b (λ i. u i +ℤ v i)
  level_plus {u} {v} h k = balanced_by
      (λ m. weights_plus (read m) u v a ∙ ap (λ z. z +ℤ total (read m) v a) (sum_of h m)
      ∙ ap (λ z. total (read m) (λ i. u (length a + i)) b +ℤ z) (sum_of k m)
      ∙ sym (weights_plus (read m) (λ i. u (length a + i)) (λ i. v (length a + i)) b))

  -- only the numbers of corners that are there count
  pub level_same : {u : ℕ → ℤ} (v : ℕ → ℤ) → ((i : ℕ) → i < length a + length b → v i ≡ u i) → Level a b u → Level a b v
  level_same {u} v e h = balanced_by
      (λ m. weights_there (read m) v u a (λ i k. e i (omega arith)) ∙ sum_of h m
      ∙ sym (weights_there (read m) (λ i. v (length a + i)) (λ i. u (length a + i)) b (λ i k. e (length a + i) (omega arith))))

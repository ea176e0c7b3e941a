-- Of `Gathered`: what rests on its definitions.
use Prim.Native.Nat.{ℕ, zero, suc, ◌<◌}
use Rattle.std.proofs.Common.{arith, ◌∙◌}
use Rattle.std.specs.Prelude.{◌≡◌, [], ◌∷◌, ℤ, pos, negsuc, length}
use Rattle.std.proofs.Math.Path.{refl, sym}
use Rattle.std.proofs.Math.IntN.{neg_ℤ-neg_ℤ}
use Rattle.whole.specs.Vector.{Vector}
use Rattle.whole.specs.VectorLaws.{vector_eq}
use Rattle.whole.specs.Quote.{quotes, combine, times}
use Rattle.whole.specs.Cramer.{Four}
use Rattle.meaning.specs.Pieces.{Event}
use Rattle.meaning.specs.Equations.{x_of, y_of, z_of, total, Balanced}
use Rattle.theory.specs.Differences.{Form, alone, around, formed}
use Rattle.theory.specs.Solved.{weights_there}
use Rattle.theory.specs.Spread.{first_numbers, second_numbers, weights_of, between}
use Rattle.theory.proofs.Spread.{unlevel}
use Rattle.theory.specs.Gathered.{Gathered, firsts, four_of, unknowns}

firsts_at : (k : ℕ) (w : ℕ → ℤ) (i : ℕ) → i < k → w i ≡ weights_of (firsts k w) i
firsts_at zero w i h = absurd (omega arith)
firsts_at (suc k) w zero h = refl
firsts_at (suc k) w (suc i) h = firsts_at k (λ i. w (suc i)) i (omega arith)

module _ (p q : Vector) (o : Four Event) (u v : ℕ → ℤ) where
  first_read : (form : Form) → Balanced (formed form p q o).first (formed form p q o).second u v → (i : ℕ) → i < length (formed form p q o).first → u i ≡ weights_of (first_numbers form o (four_of form u v)) i
  unfolding total formed first_numbers four_of
  first_read alone h zero k = combine (unknowns p q o u v) (times (pos 1) h.sums ∷ times (negsuc 0) h.times ∷ []) (search quotes depth 40 fits 9000) refl
  first_read alone h (suc zero) k = combine (unknowns p q o u v) (times (pos 1) h.times ∷ []) (search quotes depth 40 fits 9000) refl
  first_read alone h (suc (suc i)) k = absurd (omega arith)
  first_read around h zero k = combine (unknowns p q o u v) (times (pos 1) h.sums ∷ times (negsuc 0) h.times ∷ []) (search quotes depth 40 fits 9000) refl
  first_read around h (suc zero) k = sym (neg_ℤ-neg_ℤ (u 1))
  first_read around h (suc (suc zero)) k = combine (unknowns p q o u v) (times (pos 1) h.times ∷ []) (search quotes depth 40 fits 9000) refl
  first_read around h (suc (suc (suc i))) k = absurd (omega arith)

  second_read : (form : Form) (i : ℕ) → i < length (formed form p q o).second → v i ≡ weights_of (second_numbers form (four_of form u v)) i
  unfolding formed second_numbers four_of
  second_read alone i k = firsts_at 4 v i k
  second_read around i k = firsts_at 3 v i k

  pub gather : (form : Form) → Balanced (formed form p q o).first (formed form p q o).second u v → Gathered form p q o u v
  gather form h = record {
    four = n;
    combines = vector_eq (flat x_of h.xs) (flat y_of h.ys) (flat z_of h.zs);
    first = first_read form h;
    second = second_read form;
  }
    where
      n : Four ℤ
      n = four_of form u v

      flat : (f : Event → ℤ) → total f u (formed form p q o).first ≡ total f v (formed form p q o).second → between f p q o n ≡ pos 0
      flat f e = unlevel f p q o n form
          (sym (weights_there f u (weights_of (first_numbers form o n)) (formed form p q o).first (first_read form h)) ∙ e
          ∙ weights_there f v (weights_of (second_numbers form n)) (formed form p q o).second (second_read form))
